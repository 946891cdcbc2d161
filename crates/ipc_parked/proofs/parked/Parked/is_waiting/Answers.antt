use Rattle.std.proofs.Common.{ap, List, ◌∙◌, ℕ}
use Rattle.ipc_parked.specs.declared.parked.Arrival.{Arrival}
use Rattle.ipc_parked.specs.Parked.{is_there}
use Rattle.ipc_parked.proofs.Line.{there}
use Rattle.ipc_parked.proofs.parked.Parked.is_waiting.Goals as goal

pub returns : goal.returns
returns c = c.contains.ensures ∙ there c.args.client c.self.inside.arrivals.stays ∙ ap (λ (es : List (ℕ × Arrival)). is_there c.args.client es) c.self.view_is
