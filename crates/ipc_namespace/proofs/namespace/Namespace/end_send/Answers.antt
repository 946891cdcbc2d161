use Rattle.std.proofs.Common.{◌≡◌, ◌+◌, ◌∷◌, [], length, refl, sym, ap, ◌∙◌, subst, Some, Ok, Err, w64, rules}
use mir.Val.{SFits, to_z, of_z}
use Rattle.std.specs.Prelude.{⊤, IfSome, IsSome, Result}
use Rattle.std.proofs.lemmas.Bool.{eq-eqb}
use Rattle.std.proofs.lemmas.Int.{to_z-of_z}
use Rattle.ipc_call.specs.declared.calls.Call.{Call}
use Rattle.ipc_call.specs.declared.replies.Answer.TheVariants.{Done}
use Rattle.ipc_call.specs.declared.replies.Completion.{Completion}
use Rattle.ipc_call.specs.declared.replies.Waiting.{Waiting}
use Rattle.ipc_call.specs.declared.rules.Rule.{Rule}
use Rattle.msg_calls.specs.Calls.{sending}
use Rattle.ipc_model.specs.Decision.{without_answer}
use Rattle.msg_calls.specs.WithRoom.{one_if, queues_of, room}
use Rattle.ipc_model.specs.State.{State, caller, is_waiting, waiting_of}
use Rattle.ipc_model.specs.Decision.{left_by, outcome_of}
use Rattle.ipc_model.specs.Decide.{decide_alive as decide}
use Rattle.ipc_model.specs.Step.{end_waiting, without}
use Rattle.ipc_parked.specs.Parked.{waiting}
use Rattle.ipc_parked.proofs.Listed.{any_waiting}
use Rattle.std.specs.Prelude.{◌==◌, not}
use Rattle.ipc_namespace.specs.contracts.namespace.Namespace.{the_view}
use Rattle.ipc_namespace.specs.Namespace.{AreHeld, is_send_to, sent_to}
use Rattle.ipc_namespace.proofs.Held.{held-filter}
use Rattle.ipc_namespace.proofs.Calling.{IfSome-at, answered-refused, ends-so, put_in, send-answered, send-left, send-outcome, sent-done}
use Rattle.ipc_namespace.proofs.Leaving.{Leaves, leaves}
use Rattle.ipc_namespace.proofs.Own.{own-there}
use Rattle.ipc_namespace.proofs.Reserved.{only_send}
use Rattle.ipc_namespace.proofs.namespace.Namespace.end_send.Goals as goal
use Rattle.ipc_namespace.proofs.namespace.Namespace.end_send.Goals.{After-caller_of-who, After-finish}

pub returns-in-Err-clause-ended : goal.returns-in-Err-clause-ended
returns-in-Err-clause-ended c =
    let s = c.args.self.now in
    let client = c.args.client in
    let there = own-there client s.parked c.requires.waits in
    let call = there.0.call in
    let until = there.0.deadline in
    let own : waiting_of s client ≡ Some (record { client = client; call = call; deadline = until }) = there.1 ∙ (λ i. Some (record { client = there.2 i; call = call; deadline = until })) in
    let d = decide (without s client) client call in
    let refused = answered-refused d c.in-Err.rule (IfSome-at (waiting_of s client) _ (λ (w : Waiting). without_answer (decide (without s client) client w.call) ≡ Some c.args.decided) own c.requires.decided ∙ ap (λ (r : Result ⊤ Rule). Some r) c.in-Err.is) in
    subst (λ o. IfSome o (λ (w : Waiting). end_waiting s w ≡ record { state = c.end_as.new.self; ended = c.end_as.result ∷ [] })) (sym own)
    (ends-so s c.end_as.new.self client call until (Err c.in-Err.rule) c.requires.alive refused.0 (c.end_as.ensures.state ∙ sym (refused.1 (without s client)))
    ∙ ap (λ (e : Completion). record { state = c.end_as.new.self; ended = e ∷ [] }) (sym c.end_as.ensures.ended))

pub finish-requires : goal.finish-requires
finish-requires c = sym (any_waiting c.args.client c.self.inside.parked) ∙ ap (λ (s : State). is_waiting s c.args.client) c.self.view_is ∙ c.requires.waits

left : (c : After-finish) → Leaves (length c.self.inside.clients.items) c.args.client c.finish.result (waiting c.self.inside.parked) (waiting c.finish.new.self)
left c = leaves (length c.self.inside.clients.items) c.args.client c.finish.result c.self.inside.parked c.finish.new.self c.self.invariant.1 c.finish.ensures.call c.finish.ensures.rest

own : (c : After-finish) → waiting_of c.args.self.now c.args.client ≡ Some (record { client = c.args.client; call = c.finish.result; deadline = (left c).until })
own c = sym (ap (λ (s : State). waiting_of s c.args.client) c.self.view_is) ∙ (left c).own

pub unreachable-requires : goal.unreachable-requires
unreachable-requires c =
    let b = (goal.at.unreachable-requires c).After-finish in
    only_send c.finish.result (IfSome-at (waiting_of c.args.self.now c.args.client) _ (λ (w : Waiting). IsSome (sent_to w.call)) (own b) c.requires.sends) c.in_default-finish.not-MsgSnd

pub caller_of-who-requires-clause-known : goal.caller_of-who-requires-clause-known
caller_of-who-requires-clause-known c = rw c.deref.ensures.value (left (goal.at.caller_of-who-requires-clause-known c).After-finish).known

-- the state without the call
rest : After-caller_of-who → State
rest c = record (the_view c.self.inside) { parked = waiting c.finish.new.self }

rest_is : (c : After-caller_of-who) → rest c ≡ without c.args.self.now c.args.client
unfolding rest
rest_is c =
    let b = (goal.at.After-caller_of-who c).After-finish in
    (λ i. record (the_view c.self.inside) { parked = (left b).rest i })
    ∙ ap (λ (s : State). without s c.args.client) c.self.view_is

called : (c : After-caller_of-who) → c.caller_of-who.result ≡ caller (rest c) c.args.client
unfolding rest
called c = let e = c.caller_of-who.ensures in rw (c.deref.ensures.value, c.threads.ensures) at e

back : (c : After-caller_of-who) → to_z w64 (of_z w64 c.in-MsgSnd.mtype) ≡ c.in-MsgSnd.mtype
back c = to_z-of_z w64 c.in-MsgSnd.mtype (let fits : SFits w64 c.in-MsgSnd.mtype = search rules in fits)

granted : (c : After-caller_of-who) → without_answer (sending c.self.inside.limits (queues_of c.self.inside.queues) c.caller_of-who.result c.in-MsgSnd.id c.in-MsgSnd.flags (record { mtype = to_z w64 (of_z w64 c.in-MsgSnd.mtype); text = c.in-MsgSnd.text })) ≡ Some (Ok tt)
unfolding rest
granted c =
    let n = c.in-MsgSnd in
    let client = c.args.client in
    let t = without c.args.self.now client in
    let b = (goal.at.After-caller_of-who c).After-finish in
    send-answered (rest c) t client _ (rest_is c) (called c) n.id n.flags _ n.mtype n.text (back c)
    ∙ ap (λ (call : Call). without_answer (decide t client call)) (sym n.is)
    ∙ IfSome-at (waiting_of c.args.self.now client) _ (λ (w : Waiting). without_answer (decide t client w.call) ≡ Some c.args.decided) (own b) c.requires.decided
    ∙ ap (λ (r : Result ⊤ Rule). Some r) c.in_default.is

pub send_reserved-requires-clause-granted : goal.send_reserved-requires-clause-granted
send_reserved-requires-clause-granted c =
    let b = (goal.at.send_reserved-requires-clause-granted c).After-caller_of-who in
    (c.self.inside.limits, c.in-MsgSnd.flags, granted b)

pub send_reserved-requires-clause-reserved : goal.send_reserved-requires-clause-reserved
send_reserved-requires-clause-reserved c =
    let id = c.in-MsgSnd.id in
    (left (goal.at.send_reserved-requires-clause-reserved c).After-finish).roomy id _ (ap (λ (call : Call). is_send_to id call) c.in-MsgSnd.is ∙ eq-eqb id id refl) (c.self.invariant.2 id)

pub invariant_of-self : goal.invariant_of-self
invariant_of-self c =
    let b = (goal.at.invariant_of-self c).After-finish in (
      c.self.invariant.0,
      (left b).parked,
      λ id. (left b).room id _ _ (ap (λ (call : Call). room c.send_reserved.new.self id + one_if (is_send_to id call)) c.in-MsgSnd.is ∙ c.send_reserved.ensures.room id) (c.self.invariant.2 id),
      subst (λ ws. AreHeld c.self.inside.sets c.self.inside.processes.threads ws) (sym (left b).rest) (held-filter c.self.inside.sets c.self.inside.processes.threads (λ w. not (w.client == c.args.client)) (waiting c.self.inside.parked) c.self.invariant.3),
    )

pub returns-clause-ended : goal.returns-clause-ended
unfolding rest
returns-clause-ended c =
    let k = (goal.at.returns-clause-ended c).After-caller_of-who in
    let b = (goal.at.returns-clause-ended c).After-finish in
    let n = c.in-MsgSnd in
    let s = c.args.self.now in
    let client = c.args.client in
    let t = without s client in
    let new = put_in (rest k) (queues_of c.send_reserved.new.self) in
    subst (λ o. IfSome o (λ (w : Waiting). end_waiting s w ≡ record { state = new; ended = record { client = client; outcome = Ok Done } ∷ [] })) (sym (own b))
    (ends-so s new client c.finish.result (left b).until (Ok Done)
    c.requires.alive
    (ap (λ (call : Call). outcome_of (decide t client call)) n.is ∙ sym (send-outcome (rest k) t client _ (rest_is k) (called k) n.id n.flags _ n.mtype n.text (back k)) ∙ sent-done c.self.inside.limits (queues_of c.self.inside.queues) c.caller_of-who.result n.id n.flags (record { mtype = to_z w64 (of_z w64 n.mtype); text = n.text }) (granted k))
    (send-left (rest k) t client _ (rest_is k) (called k) n.id n.flags _ n.mtype n.text (back k) (queues_of c.send_reserved.new.self) (c.send_reserved.ensures.queues c.self.inside.limits n.flags (granted k))
    ∙ ap (λ (call : Call). left_by t (decide t client call)) (sym n.is)))

pub returns-clause-shorter : goal.returns-clause-shorter
returns-clause-shorter c = (left (goal.at.returns-clause-shorter c).After-finish).shorter ∙ ap (λ (s : State). length s.parked) c.self.view_is
