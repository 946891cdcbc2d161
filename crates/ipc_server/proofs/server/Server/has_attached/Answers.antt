use Rattle.std.proofs.Common.{ap, ◌∙◌}
use Rattle.ipc_history.specs.History.{run}
use Rattle.ipc_model.specs.State.{State}
use Rattle.ipc_server.specs.Held.{Held}
use Rattle.ipc_server.specs.Lives.{has_any}
use Rattle.ipc_server.proofs.Attached.{tells_any}
use Rattle.ipc_server.proofs.server.Server.has_attached.Goals as goal

pub returns : goal.returns
returns c =
    c.is_some.ensures
    ∙ tells_any c.namespace.result.now c.args.client c.next_attachment.result c.next_attachment.ensures.none c.next_attachment.ensures.there c.next_attachment.ensures.few
    ∙ ap (λ (s : State). has_any s c.args.client) (c.namespace.ensures ∙ ap (λ (h : Held). run h.server.history) c.self.view_is)
