use Rattle.std.proofs.Common.{ap, Option, ◌∙◌}
use Rattle.std.specs.Prelude.{unwrap_or}
use Rattle.std.proofs.lemmas.Option.{unwrap_or-slice_get}
use Rattle.ipc_creds.specs.Credentials.{Credentials}
use Rattle.ipc_history.specs.History.{run}
use Rattle.ipc_model.specs.State.{State, creds_at, nobody}
use Rattle.ipc_server.specs.Held.{Held}
use Rattle.ipc_server.proofs.server.Server.euid_of.Goals as goal

pub returns-in-None : goal.returns-in-None
returns-in-None c =
    ap (λ (o : Option Credentials). (unwrap_or o nobody).euid) c.in-None.ensures
    ∙ ap (λ (creds : Credentials). creds.euid) (unwrap_or-slice_get c.namespace.result.now.clients c.args.client nobody)
    ∙ ap (λ (s : State). (creds_at s c.args.client).euid) (c.namespace.ensures ∙ ap (λ (h : Held). run h.server.history) c.self.view_is)

pub returns-in-Some : goal.returns-in-Some
returns-in-Some c =
    c.euid.ensures
    ∙ ap (λ (o : Option Credentials). (unwrap_or o nobody).euid) c.in-Some.ensures
    ∙ ap (λ (creds : Credentials). creds.euid) (unwrap_or-slice_get c.namespace.result.now.clients c.args.client nobody)
    ∙ ap (λ (s : State). (creds_at s c.args.client).euid) (c.namespace.ensures ∙ ap (λ (h : Held). run h.server.history) c.self.view_is)
