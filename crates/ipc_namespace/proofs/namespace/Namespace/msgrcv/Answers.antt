use Rattle.std.proofs.Common.{◌≡◌, refl, ap, ◌∙◌, Option, Ok}
use Rattle.ipc_model.specs.Decision.{Outcome}
use Rattle.msg_calls.specs.WithRoom.{queues_of}
use Rattle.ipc_model.specs.State.{caller}
use Rattle.ipc_namespace.specs.contracts.namespace.Namespace.{the_view}
use Rattle.ipc_namespace.proofs.Calling.{receive-left, receive-outcome}
use Rattle.ipc_namespace.proofs.namespace.Namespace.msgrcv.Goals as goal
use Rattle.ipc_namespace.proofs.namespace.Namespace.msgrcv.Goals.{After-msgrcv}

called : (c : After-msgrcv) → c.caller_of-who.result ≡ caller (the_view c.self.inside) c.args.client
called c = let e = c.caller_of-who.ensures in rw (c.deref.ensures.value, c.threads.ensures) at e

pub returns-clause-outcome : goal.returns-clause-outcome
returns-clause-outcome c =
    let b = (goal.at.returns-clause-outcome c).After-msgrcv in
    ap (λ (own : Option Outcome). Ok own) (c.msgrcv.ensures.outcome
    ∙ receive-outcome (the_view b.self.inside) c.args.self.now c.args.client c.caller_of-who.result c.self.view_is (called b) c.args.id c.args.asked.size c.args.asked.flags _ c.args.asked.msgtyp refl)

pub returns-clause-state : goal.returns-clause-state
returns-clause-state c =
    let b = (goal.at.returns-clause-state c).After-msgrcv in
    receive-left (the_view b.self.inside) c.args.self.now c.args.client c.caller_of-who.result c.self.view_is (called b) c.args.id c.args.asked.size c.args.asked.flags _ c.args.asked.msgtyp refl (queues_of c.msgrcv.new.self) c.msgrcv.ensures.queues
