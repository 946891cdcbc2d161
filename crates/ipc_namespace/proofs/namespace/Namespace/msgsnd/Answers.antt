use Rattle.std.proofs.Common.{◌≡◌, ℕ, List, ap, ◌∙◌, sym, w64, Some, Ok}
use mir.Val.{to_z, of_z}
use Rattle.std.proofs.lemmas.Int.{to_z-of_z}
use Rattle.std.specs.Prelude.{⊤, Result}
use Rattle.ipc_call.specs.declared.calls.Call.{Call}
use Rattle.ipc_call.specs.declared.calls.Call.TheVariants.{MsgSnd}
use Rattle.ipc_call.specs.declared.replies.Answer.TheVariants.{Done}
use Rattle.ipc_call.specs.declared.rules.Rule.{Rule}
use Rattle.msg_calls.specs.WithRoom.{queues_of}
use Rattle.msg_calls.specs.Calls.{sending}
use Rattle.ipc_model.specs.Decision.{Decision, left_by, outcome_of, without_answer}
use Rattle.ipc_model.specs.State.{Queues, caller}
use Rattle.ipc_model.specs.Decide.{decide_alive as decide}
use Rattle.ipc_namespace.specs.contracts.namespace.Namespace.{the_view}
use Rattle.ipc_namespace.proofs.Calling.{answered-none, answered-refused, left-refused, left-waits, send-left, send-outcome, sent-done}
use Rattle.ipc_namespace.proofs.namespace.Namespace.msgsnd.Goals as goal
use Rattle.ipc_namespace.proofs.namespace.Namespace.msgsnd.Goals.{After-decide_send}

called : (c : After-decide_send) → c.caller_of-who.result ≡ caller (the_view c.self.inside) c.args.client
called c = let e = c.caller_of-who.ensures in rw (c.deref.ensures.value, c.threads.ensures) at e

abbrev asked : After-decide_send → Call
asked c = MsgSnd c.args.id c.args.mtype c.args.text.now c.args.flags

back : (c : After-decide_send) → to_z w64 (of_z w64 c.args.mtype) ≡ c.args.mtype
back c = to_z-of_z w64 c.args.mtype c.ranges.mtype

-- how the call ends, by what was decided of its message, and what it leaves
ends : (c : After-decide_send) → outcome_of (sending (the_view c.self.inside).limits (the_view c.self.inside).queues c.caller_of-who.result c.args.id c.args.flags (record { mtype = to_z w64 (of_z w64 c.args.mtype); text = c.args.text.now })) ≡ outcome_of (decide c.args.self.now c.args.client (asked c))
ends c = send-outcome (the_view c.self.inside) c.args.self.now c.args.client c.caller_of-who.result c.self.view_is (called c) c.args.id c.args.flags _ c.args.mtype c.args.text.now (back c)

pub returns-in-None-clause-outcome : goal.returns-in-None-clause-outcome
returns-in-None-clause-outcome c =
    let b = (goal.at.returns-in-None-clause-outcome c).After-decide_send in
    sym (answered-none _ (sym (c.in-None.ensures c.args.text.now (sym c.len.ensures)))) ∙ ends b

pub returns-in-None-clause-state : goal.returns-in-None-clause-state
returns-in-None-clause-state c =
    let b = (goal.at.returns-in-None-clause-state c).After-decide_send in
    let s = c.args.self.now in
    let waits = sym (ends b) ∙ answered-none _ (sym (c.in-None.ensures c.args.text.now (sym c.len.ensures))) in
    sym (left-waits s (decide s c.args.client (asked b)) waits)

pub returns-in-Some-Err-clause-outcome : goal.returns-in-Some-Err-clause-outcome
returns-in-Some-Err-clause-outcome c =
    let b = (goal.at.returns-in-Some-Err-clause-outcome c).After-decide_send in
    let refused = answered-refused _ c.in-Some-Err.rule (sym (c.in-Some-Err.ensures c.args.text.now (sym c.len.ensures)) ∙ ap (λ (r : Result ⊤ Rule). Some r) c.in-Some-Err.field-0-is) in
    sym refused.0 ∙ ends b

pub returns-in-Some-Err-clause-state : goal.returns-in-Some-Err-clause-state
returns-in-Some-Err-clause-state c =
    let b = (goal.at.returns-in-Some-Err-clause-state c).After-decide_send in
    let s = c.args.self.now in
    let refused = answered-refused _ c.in-Some-Err.rule (sym (c.in-Some-Err.ensures c.args.text.now (sym c.len.ensures)) ∙ ap (λ (r : Result ⊤ Rule). Some r) c.in-Some-Err.field-0-is) in
    sym (left-refused s (decide s c.args.client (asked b)) c.in-Some-Err.rule (sym (ends b) ∙ refused.0))

granted : (c : After-decide_send) (r : Result ⊤ Rule) → Some r ≡ without_answer (sending (the_view c.self.inside).limits (the_view c.self.inside).queues c.caller_of-who.result c.args.id c.args.flags (record { mtype = to_z w64 (of_z w64 c.args.mtype); text = c.args.text.now })) → r ≡ Ok tt
    → outcome_of (decide c.args.self.now c.args.client (asked c)) ≡ Some (Ok Done)
granted c r told is =
    sym (ends c) ∙ sent-done (the_view c.self.inside).limits (the_view c.self.inside).queues c.caller_of-who.result c.args.id c.args.flags (record { mtype = to_z w64 (of_z w64 c.args.mtype); text = c.args.text.now }) (sym told ∙ ap (λ (x : Result ⊤ Rule). Some x) is)

pub returns-in_ok-msgsnd-in-Some-Ok-clause-outcome : goal.returns-in_ok-msgsnd-in-Some-Ok-clause-outcome
returns-in_ok-msgsnd-in-Some-Ok-clause-outcome c =
    let b = (goal.at.returns-in_ok-msgsnd-in-Some-Ok-clause-outcome c).After-decide_send in
    sym (granted b _ (c.in-Some-Ok.ensures c.args.text.now (sym c.len.ensures)) c.in-Some-Ok.field-0-is)

pub returns-in_ok-msgsnd-in-Some-Ok-clause-state : goal.returns-in_ok-msgsnd-in-Some-Ok-clause-state
returns-in_ok-msgsnd-in-Some-Ok-clause-state c =
    let b = (goal.at.returns-in_ok-msgsnd-in-Some-Ok-clause-state c).After-decide_send in
    let v = the_view b.self.inside in
    let same = c.in_ok-copy-in-Some-Ok.ensures in
    let send : List ℕ → Decision Queues = λ text. sending v.limits v.queues c.caller_of-who.result c.args.id c.args.flags (record { mtype = to_z w64 (of_z w64 c.args.mtype); text = text }) in
    let told = c.in-Some-Ok.ensures c.args.text.now (sym c.len.ensures) in
    send-left v c.args.self.now c.args.client c.caller_of-who.result c.self.view_is (called b) c.args.id c.args.flags _ c.args.mtype c.args.text.now (back b) (queues_of c.msgsnd.new.self)
    (c.in_ok-msgsnd-in-Some-Ok.ensures.queues v.limits c.args.flags (ap (λ text. without_answer (send text)) same ∙ sym told ∙ ap (λ (x : Result ⊤ Rule). Some x) c.in-Some-Ok.field-0-is)
    ∙ ap (λ text. left_by v.queues (send text)) same)
