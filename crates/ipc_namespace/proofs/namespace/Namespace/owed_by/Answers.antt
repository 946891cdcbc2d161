use Rattle.std.proofs.Common.{◌≡◌, ◌<◌, ◌≤◌, ℕ, ◌+◌, [], filter, sym, subst, true, false, Option, Some}
use Rattle.std.specs.Prelude.{IfNone, IfSome}
use Rattle.std.specs.List.{AllByRecursion}
use Rattle.std.proofs.lemmas.Bool.{false≢true}
use Rattle.ipc_call.specs.declared.calls.Kind.TheVariants as kinds
use Rattle.ipc_call.specs.declared.replies.Waiting.{Waiting}
use Rattle.ipc_model.specs.State.{State}
use Rattle.ipc_model.specs.Touched.{owes}
use Rattle.ipc_parked.specs.declared.touched.Touched.{Touched}
use Rattle.ipc_parked.specs.declared.touched.Touched.TheVariants.{Nothing, Object}
use Rattle.ipc_parked.specs.Touched.{is_touched}
use Rattle.ipc_namespace.proofs.Owing.{Kept, NoneTo, kept-all, kept-first, kept-passed, kept-touched, none-filter, none-to}
use Rattle.ipc_namespace.proofs.namespace.Namespace.owed_by.Goals as goal
use Rattle.ipc_namespace.proofs.namespace.Namespace.owed_by.Goals.{then-may_be_touched+in-Nothing, else-may_be_touched}

-- what was looked up in the sets holds of those of the state
none-owed : (s v : State) (process from : ℕ) (next : Option ℕ) → v ≡ s → IfNone next ((id : ℕ) → from ≤ id → owes v.sems process id ≡ false)
    → IfSome next (λ n. (id : ℕ) → from ≤ id → id < n → owes v.sems process id ≡ false) → NoneTo s process from next
none-owed s v process from next is none least =
    none-to s process from next
    (subst (λ (u : State). IfNone next ((id : ℕ) → from ≤ id → owes u.sems process id ≡ false)) is none)
    (subst (λ (u : State). IfSome next (λ n. (id : ℕ) → from ≤ id → id < n → owes u.sems process id ≡ false)) is least)

pub loop-next-init : goal.loop-next-init
loop-next-init c =
    let e = c.next_owed-next.ensures in
    record {
      kept = kept-first c.args.self.now c.args.process c.next_owed-next.result (is_touched Nothing) (none-owed c.args.self.now _ c.args.process 0 c.next_owed-next.result c.self.view_is e.none e.least);
      fits = e.fits;
    }

pub loop-next-preserved : goal.loop-next-preserved
loop-next-preserved c =
    let s = c.args.self.now in
    let process = c.args.process in
    let id = c.in-Some.id in
    let next = c.next_owed-next-in-Some.result in
    let e = c.next_owed-next-in-Some.ensures in
    let touched = c.loop-next.touched in
    let set = is_touched (Object kinds.Sems id) in
    let kept : AllByRecursion (λ w. Kept s process (Some id) (is_touched touched) w) s.parked = subst (λ (o : Option ℕ). AllByRecursion (λ w. Kept s process o (is_touched touched) w) s.parked) c.in-Some.is c.loop-next.invariant.kept in
    let none : NoneTo s process (id + 1) next = subst (λ (n : ℕ). NoneTo s process (n + 1) next) c.from.ensures (none-owed s _ process (c.from.result + 1) next c.self.view_is e.none e.least) in
    record {
      kept = elim c.if-may_be_touched.branch [
        | then-may_be_touched+in-Nothing p ↦
            let nowhere : (w : Waiting) → is_touched touched w ≡ true → set w ≡ true = λ w on. absurd (false≢true (subst (λ (t : Touched). is_touched t w ≡ true) p.in-Nothing.is on)) in
            subst (λ (t : Touched). AllByRecursion (λ w. Kept s process next (is_touched t) w) s.parked) (sym p.touched-is) (kept-touched s process id next (is_touched touched) none set nowhere (λ w on. on) kept)
        | else-may_be_touched p ↦
            let off : filter set s.parked ≡ [] = subst (λ (u : State). filter set u.parked ≡ []) c.self.view_is (c.may_be_touched.ensures p.if-may_be_touched.false) in
            subst (λ (t : Touched). AllByRecursion (λ w. Kept s process next (is_touched t) w) s.parked) (sym p.touched-is) (kept-passed s process id next (is_touched touched) none (none-filter set s.parked off) kept)
      ];
      fits = e.fits;
    }

pub returns : goal.returns
returns c = kept-all c.args.self.now c.args.process c.loop-next.next _ c.in_default.is c.loop-next.invariant.kept
