use Rattle.std.proofs.Common.{sym, ap, ◌∙◌}
use Rattle.std.specs.Prelude.{option_map}
use Rattle.ipc_call.specs.declared.replies.Waiting.{Waiting}
use Rattle.ipc_model.specs.State.{State, waiting_of}
use Rattle.ipc_parked.specs.declared.parked.Arrival.{Arrival}
use Rattle.ipc_parked.specs.Parked.{entry_of}
use Rattle.ipc_parked.proofs.Listed.{waiting-own}
use Rattle.ipc_namespace.proofs.namespace.Namespace.waiting_of.Goals as goal

pub returns : goal.returns
returns c =
    ap (option_map {U = Waiting} (λ (a : Arrival). entry_of (c.args.client, a))) c.get.ensures
    ∙ sym (waiting-own c.args.client c.self.inside.parked) ∙ ap (λ (s : State). waiting_of s c.args.client) c.self.view_is
