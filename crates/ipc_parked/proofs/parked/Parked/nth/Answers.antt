use Rattle.std.proofs.Common.{ap, slice_get, List, Option, ◌∙◌, ℕ}
use Rattle.std.specs.Option.{option_map}
use Rattle.ipc_call.specs.declared.replies.Waiting.{Waiting}
use Rattle.ipc_parked.specs.declared.arrivals.Stay.{Stay}
use Rattle.ipc_parked.specs.declared.parked.Arrival.{Arrival}
use Rattle.ipc_parked.specs.Parked.{entry_of, waiting}
use Rattle.ipc_parked.proofs.Line.{waiting_is}
use Rattle.ipc_parked.proofs.parked.Parked.nth.Goals as goal

pub returns : goal.returns
returns c =
    ap (λ (o : Option (ℕ × Stay)). option_map {T = ℕ × Stay} {U = Waiting} (λ e. entry_of (e.0, e.1.arrival)) o) c.in_ok-client.ensures
    ∙ waiting_is c.self.inside.arrivals.stays c.args.index
    ∙ ap (λ (es : List (ℕ × Arrival)). slice_get (waiting es) c.args.index) c.self.view_is
