use Rattle.std.proofs.Common.{◌∙◌, ℕ, List, ap}
use Rattle.ipc_parked.specs.declared.parked.Arrival.{Arrival}
use Rattle.ipc_parked.specs.Parked.{soonest_deadline}
use Rattle.ipc_parked.proofs.Dues.{soonest_due}
use Rattle.ipc_parked.proofs.parked.Parked.soonest.Goals as goal

pub returns : goal.returns
returns c =
    soonest_due c.self.inside.deadlines.rows c.self.inside.arrivals.stays c.soonest.result c.self.invariant.1 c.soonest.ensures
    ∙ ap (λ (es : List (ℕ × Arrival)). soonest_deadline es) c.self.view_is
