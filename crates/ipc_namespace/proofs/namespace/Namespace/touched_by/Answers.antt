use Rattle.std.proofs.Common.{◌≡◌, ◌∙◌, ℕ, [], refl, sym, subst}
use Rattle.std.specs.Prelude.{IfNone, IfSome, IsSome}
use Rattle.ipc_call.specs.declared.calls.Call.{Call}
use Rattle.ipc_call.specs.declared.calls.Call.TheVariants.{Exit, Kill}
use Rattle.ipc_model.specs.State.{State}
use Rattle.ipc_parked.specs.declared.touched.Touched.TheVariants.{Nothing}
use Rattle.ipc_parked.specs.Touched.{is_touched}
use Rattle.ipc_namespace.specs.Touching.{CoversOwed, CoversWaiting, ending}
use Rattle.ipc_namespace.proofs.Owing.{covered-by, covered-exit, covered-kill, covers-none, ends-none, kill-ends, none-waiting, whenever}
use Rattle.ipc_namespace.proofs.namespace.Namespace.touched_by.Goals as goal

pub returns-then-len-eq0-clause-covers : goal.returns-then-len-eq0-clause-covers
returns-then-len-eq0-clause-covers c =
    let none = none-waiting c.self.inside.parked (sym c.len.ensures ∙ c.if-len-eq0.true) in
    covers-none c.args.self.now c.args.client c.args.call.now (is_touched Nothing) (subst (λ (u : State). u.parked ≡ []) c.self.view_is none)

pub returns-in-Exit : goal.returns-in-Exit
returns-in-Exit c =
    let s = c.args.self.now in
    let told = c.owed_by.result in
    let covers = subst (λ (process : ℕ). IfSome told (λ touched. CoversOwed s process (is_touched touched))) c.process_of.ensures c.owed_by.ensures in
    record {
      covers = subst (λ (call : Call). IfSome told (λ touched. CoversWaiting s c.args.client call (is_touched touched))) (sym c.in-Exit.is) (covered-exit s c.args.client told covers);
      several = subst (λ (call : Call). IfNone told (IsSome (ending s c.args.client call))) (sym c.in-Exit.is) (whenever told (IsSome (ending s c.args.client Exit)) refl);
    }

pub returns-in-Kill : goal.returns-in-Kill
returns-in-Kill c =
    let s = c.args.self.now in
    let told = c.owed_by_pid.result in
    record {
      covers = subst (λ (call : Call). IfSome told (λ touched. CoversWaiting s c.args.client call (is_touched touched))) (sym c.in-Kill.is) (covered-kill s c.args.client c.in-Kill.pid told c.owed_by_pid.ensures.covers);
      several = subst (λ (call : Call). IfNone told (IsSome (ending s c.args.client call))) (sym c.in-Kill.is) (kill-ends s c.args.client c.in-Kill.pid told c.owed_by_pid.ensures.several);
    }

pub returns-in_default : goal.returns-in_default
returns-in_default c = record {
  covers = covered-by c.args.self.now c.args.client c.args.call.now c.by.result c.by.ensures.covers;
  several = ends-none c.args.self.now c.args.client c.args.call.now c.by.result c.in_default.not-Exit c.in_default.not-Kill c.by.ensures.none;
}
