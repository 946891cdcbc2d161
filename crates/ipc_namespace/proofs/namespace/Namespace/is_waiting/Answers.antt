use Rattle.std.proofs.Common.{sym, ap, ◌∙◌}
use Rattle.ipc_model.specs.State.{State, is_waiting}
use Rattle.ipc_parked.proofs.Listed.{any_waiting}
use Rattle.ipc_namespace.proofs.namespace.Namespace.is_waiting.Goals as goal

pub returns : goal.returns
returns c = c.is_waiting.ensures ∙ sym (any_waiting c.args.client c.self.inside.parked) ∙ ap (λ (s : State). is_waiting s c.args.client) c.self.view_is
