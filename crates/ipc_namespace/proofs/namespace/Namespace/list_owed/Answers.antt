use Rattle.std.proofs.Common.{◌≡◌, ◌∙◌, ◌<◌, ◌≤◌, ℕ, ◌+◌, List, [], ◌∷◌, ◌++◌, true, false, arith, length, sym, ap, subst, Option, Some, None}
use Rattle.std.specs.Prelude.{IfNone, IfSome}
use Rattle.std.specs.List.{AllByRecursion, list_any}
use Rattle.sem_undo.specs.Entries.{HasEntry}
use Rattle.ipc_model.specs.State.{State}
use Rattle.ipc_model.specs.Touched.{owes}
use Rattle.ipc_parked.specs.Parked.{waiting}
use Rattle.ipc_namespace.specs.Touching.{IsOwedTo, is_listed}
use Rattle.ipc_namespace.proofs.OnSets.{IsPast, all-more, length-more, none-any, on_before, tally, tally-all, tally-some, tally-step}
use Rattle.ipc_namespace.proofs.Owing.{Kept, NoneTo, kept-all, kept-first, kept-passed, kept-touched, listed-kept, listed-new, none-to, on}
use Rattle.ipc_namespace.proofs.Parked.{length-parked}
use Rattle.ipc_namespace.proofs.namespace.Namespace.list_owed.Goals as goal
use Rattle.ipc_namespace.proofs.namespace.Namespace.list_owed.Goals.{then-is_awaited, else-is_awaited}

-- what was looked up in the sets holds of those of the state
none-owed : (s v : State) (process from : ℕ) (next : Option ℕ) → v ≡ s → IfNone next ((id : ℕ) → from ≤ id → owes v.sems process id ≡ false)
    → IfSome next (λ n. (id : ℕ) → from ≤ id → id < n → owes v.sems process id ≡ false) → NoneTo s process from next
none-owed s v process from next is none least =
    none-to s process from next
    (subst (λ (u : State). IfNone next ((id : ℕ) → from ≤ id → owes u.sems process id ≡ false)) is none)
    (subst (λ (u : State). IfSome next (λ n. (id : ℕ) → from ≤ id → id < n → owes u.sems process id ≡ false)) is least)

is-there : (s v : State) (process : ℕ) (next : Option ℕ) → v ≡ s → IfSome next (λ n. HasEntry v.sems.undo process n) → IfSome next (λ n. HasEntry s.sems.undo process n)
is-there s v process next is there = subst (λ (u : State). IfSome next (λ n. HasEntry u.sems.undo process n)) is there

pub loop-next-init : goal.loop-next-init
loop-next-init c =
    let s = c.args.self.now in
    let process = c.args.process in
    let next = c.next_owed-next.result in
    let e = c.next_owed-next.ensures in
    record {
      kept = kept-first s process next (is_listed c.args.owed.now) (none-owed s _ process 0 next c.self.view_is e.none e.least);
      only = subst (λ (ids : List ℕ). AllByRecursion (λ id. IsOwedTo s process id) ids) (sym c.requires) tt;
      few = subst (λ (ids : List ℕ). length ids ≤ tally (on_before next) s.parked) (sym c.requires) (omega arith);
      there = is-there s _ process next c.self.view_is e.there;
      fits = e.fits;
    }

pub push-requires : goal.push-requires
push-requires c =
    let s = c.args.self.now in
    let n = c.self.inside in
    let id = c.in-Some.id in
    let ids = c.loop-next.owed in
    let few : length ids ≤ tally (on_before (Some id)) s.parked = subst (λ (o : Option ℕ). length ids ≤ tally (on_before o) s.parked) c.in-Some.is c.loop-next.invariant.few in
    let any : list_any (on id) s.parked ≡ true = ap (λ (u : State). list_any (on id) u.parked) (sym c.self.view_is) ∙ sym c.is_awaited.ensures ∙ c.if-is_awaited.true in
    let some = tally-some (on id) s.parked any in
    let step = tally-step id None s.parked tt in
    let all = tally-all (on_before None) s.parked in
    let most : length (waiting n.parked) ≤ length n.clients.items = length-parked (length n.clients.items) (waiting n.parked) c.self.invariant.1 in
    let same = ap (λ (u : State). length u.parked) c.self.view_is in
    omega (arith, few, some, step, all, most, same, c.self.invariant.0)

pub loop-next-preserved : goal.loop-next-preserved
loop-next-preserved c =
    let s = c.args.self.now in
    let process = c.args.process in
    let id = c.in-Some.id in
    let ids = c.loop-next.owed in
    let inv = c.loop-next.invariant in
    let next = c.next_owed-next-in-Some.result in
    let e = c.next_owed-next-in-Some.ensures in
    let kept : AllByRecursion (λ w. Kept s process (Some id) (is_listed ids) w) s.parked = subst (λ (o : Option ℕ). AllByRecursion (λ w. Kept s process o (is_listed ids) w) s.parked) c.in-Some.is inv.kept in
    let none : NoneTo s process (id + 1) next = subst (λ (n : ℕ). NoneTo s process (n + 1) next) c.from.ensures (none-owed s _ process (c.from.result + 1) next c.self.view_is e.none e.least) in
    let past : IsPast id next = subst (λ (n : ℕ). IfSome next (λ k. n + 1 ≤ k)) c.from.ensures e.from in
    let few : length ids ≤ tally (on_before (Some id)) s.parked = subst (λ (o : Option ℕ). length ids ≤ tally (on_before o) s.parked) c.in-Some.is inv.few in
    let step = tally-step id next s.parked past in
    let here : HasEntry s.sems.undo process id = subst (λ (o : Option ℕ). IfSome o (λ n. HasEntry s.sems.undo process n)) c.in-Some.is inv.there in
    let told : c.is_awaited.result ≡ list_any (on id) s.parked = c.is_awaited.ensures ∙ ap (λ (u : State). list_any (on id) u.parked) c.self.view_is in
    elim c.if-is_awaited.branch [
      | then-is_awaited p ↦
          let is : c.if-is_awaited.owed ≡ ids ++ id ∷ [] = p.owed-is ∙ p.push.ensures in
          let any : list_any (on id) s.parked ≡ true = sym told ∙ p.if-is_awaited.true in
          let some = tally-some (on id) s.parked any in
          let more = length-more ids id in
          let longer : length (ids ++ id ∷ []) ≤ tally (on_before next) s.parked = omega (arith, few, step, some, more) in
          record {
            kept = subst (λ (l : List ℕ). AllByRecursion (λ w. Kept s process next (is_listed l) w) s.parked) (sym is) (kept-touched s process id next (is_listed ids) none (is_listed (ids ++ id ∷ [])) (listed-kept ids id) (listed-new ids id) kept);
            only = subst (λ (l : List ℕ). AllByRecursion (λ i. IsOwedTo s process i) l) (sym is) (all-more (λ i. IsOwedTo s process i) ids id inv.only (here, any));
            few = subst (λ (l : List ℕ). length l ≤ tally (on_before next) s.parked) (sym is) longer;
            there = is-there s _ process next c.self.view_is e.there;
            fits = e.fits;
          }
      | else-is_awaited p ↦
          let is : c.if-is_awaited.owed ≡ ids = p.owed-is in
          let off = none-any (on id) s.parked (sym told ∙ p.if-is_awaited.false) in
          let still : length ids ≤ tally (on_before next) s.parked = omega (arith, few, step) in
          record {
            kept = subst (λ (l : List ℕ). AllByRecursion (λ w. Kept s process next (is_listed l) w) s.parked) (sym is) (kept-passed s process id next (is_listed ids) none off kept);
            only = subst (λ (l : List ℕ). AllByRecursion (λ i. IsOwedTo s process i) l) (sym is) inv.only;
            few = subst (λ (l : List ℕ). length l ≤ tally (on_before next) s.parked) (sym is) still;
            there = is-there s _ process next c.self.view_is e.there;
            fits = e.fits;
          }
    ]

pub returns : goal.returns
returns c = record {
  covers = kept-all c.args.self.now c.args.process c.loop-next.next (is_listed c.loop-next.owed) c.in_default.is c.loop-next.invariant.kept;
  only = c.loop-next.invariant.only;
}
