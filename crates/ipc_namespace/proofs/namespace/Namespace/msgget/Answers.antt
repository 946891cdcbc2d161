use Rattle.std.proofs.Common.{◌≡◌, sym, ◌∙◌}
use Rattle.std.proofs.lemmas.Result.{on_ok_weaker}
use Rattle.msg_calls.specs.WithRoom.{queues_of}
use Rattle.ipc_model.specs.State.{caller}
use Rattle.msg_calls.proofs.Holding.{IfOk-map}
use Rattle.ipc_namespace.specs.contracts.namespace.Namespace.{the_view}
use Rattle.ipc_namespace.proofs.Calling.{get-left, get-outcome}
use Rattle.ipc_namespace.proofs.namespace.Namespace.msgget.Goals as goal
use Rattle.ipc_namespace.proofs.namespace.Namespace.msgget.Goals.{After-msgget}

called : (c : After-msgget) → c.caller_of-who.result ≡ caller (the_view c.self.inside) c.args.client
called c = let e = c.caller_of-who.ensures in rw (c.deref.ensures.value, c.threads.ensures) at e

pub returns-clause-outcome : goal.returns-clause-outcome
returns-clause-outcome c =
    let b = (goal.at.returns-clause-outcome c).After-msgget in
    IfOk-map c.msgget.result _ _ (λ outcome is. sym (get-outcome (the_view b.self.inside) c.args.self.now c.args.client c.caller_of-who.result c.self.view_is (called b) c.args.asked.key c.args.asked.flags) ∙ is) c.msgget.ensures.outcome

pub returns-clause-state : goal.returns-clause-state
returns-clause-state c =
    let b = (goal.at.returns-clause-state c).After-msgget in
    on_ok_weaker c.msgget.result (λ is. get-left (the_view b.self.inside) c.args.self.now c.args.client c.caller_of-who.result c.self.view_is (called b) c.args.asked.key c.args.asked.flags (queues_of c.msgget.new.self) is) c.msgget.ensures.queues
