use Rattle.std.proofs.Common.{◌≡◌, ℕ, refl, sym, subst, None, Some, Option}
use Rattle.std.specs.Prelude.{IfSome, IsSome}
use Rattle.std.specs.List.{find}
use Rattle.ipc_model.specs.State.{State, Thread, has_pid, thread_at}
use Rattle.ipc_parked.specs.declared.touched.Touched.TheVariants.{Nothing}
use Rattle.ipc_parked.specs.Touched.{is_touched}
use Rattle.ipc_namespace.specs.Touching.{CoversOwed}
use Rattle.ipc_namespace.proofs.Owing.{covered-process, covers-no-process, whenever}
use Rattle.ipc_namespace.proofs.namespace.Namespace.owed_by_pid.Goals as goal

pub returns-in-None-clause-covers : goal.returns-in-None-clause-covers
returns-in-None-clause-covers c =
    covers-no-process c.args.self.now c.args.pid (is_touched Nothing) (subst (λ (u : State). find (has_pid c.args.pid) u.threads ≡ None) c.self.view_is (sym c.in-None.ensures.first))

pub returns-in-Some : goal.returns-in-Some
returns-in-Some c =
    let s = c.args.self.now in
    let thread = thread_at s c.in-Some.client in
    let told = c.owed_by.result in
    let found : find (has_pid c.args.pid) s.threads ≡ Some thread = subst (λ (u : State). find (has_pid c.args.pid) u.threads ≡ Some (thread_at u c.in-Some.client)) c.self.view_is (sym c.in-Some.ensures.first) in
    record {
      covers = covered-process s c.args.pid thread told found (subst (λ (process : ℕ). IfSome told (λ touched. CoversOwed s process (is_touched touched))) c.process_of.ensures c.owed_by.ensures);
      several = whenever told (IsSome (find (has_pid c.args.pid) s.threads)) (subst (λ (o : Option Thread). IsSome o) (sym found) refl);
    }
