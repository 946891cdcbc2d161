use Rattle.std.proofs.Common.{◌∙◌, ap, subst, sym, List, slice_get, Some}
use Rattle.ipc_parked.specs.declared.deadlines.Due.{Due}
use Rattle.ipc_parked.specs.Deadlines.{DeadlinesState, IsSoonest}
use Rattle.ipc_parked.proofs.Ranks.{soonest_first}
use Rattle.ipc_parked.proofs.deadlines.Deadlines.soonest.Goals as goal

pub returns-in-Some : goal.returns-in-Some
returns-in-Some c =
    subst (λ (d : DeadlinesState). IsSoonest d.rows (Some c.in-Some.row.now.deadline)) c.self.view_is
    (soonest_first c.self.inside.rows.items c.in-Some.row.now c.self.invariant (ap (λ (xs : List Due). slice_get xs 0) (sym c.deref.ensures.value) ∙ sym c.in-Some.ensures.value))
