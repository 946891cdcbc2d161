use Rattle.std.proofs.Common.{◌≡◌, ℕ, ◌<◌, ◌∷◌, [], List, true, false, length, refl, sym, ap, ◌∙◌, subst, Option, Some, w64, rules}
use mir.Val.{SFits}
use Rattle.std.specs.Prelude.{◌==◌, is_some, slice_index_or, IfSome, IsSome}
use Rattle.std.specs.List.{find, list_any}
use Rattle.std.proofs.lemmas.Int.{to_z-of_z}
use Rattle.ipc_call.specs.declared.calls.Call.{Call}
use Rattle.ipc_call.specs.declared.calls.Call.TheVariants.{SemOp}
use Rattle.ipc_call.specs.declared.calls.SemOper.{SemOper}
use Rattle.ipc_call.specs.declared.replies.Completion.{Completion}
use Rattle.ipc_call.specs.declared.replies.Waiting.{Waiting}
use Rattle.ipc_model.specs.Decision.{without_answer}
use Rattle.sem_calls.specs.WithRows.{HasRow, sems_of}
use Rattle.msg_calls.specs.WithRoom.{queues_of}
use Rattle.ipc_model.specs.State.{Caller, Queues, Sems, State, caller, has_exited, is_waiting, no_thread, waiting_of}
use Rattle.ipc_model.specs.Plan.{Plan, decision}
use Rattle.ipc_model.specs.Semaphores.{operate}
use Rattle.ipc_model.specs.Decision.{Outcome, left_by, outcome_of, proceeds}
use Rattle.ipc_model.specs.Decide.{decide_alive as decide, part_plan}
use Rattle.ipc_model.specs.Step.{end_waiting, is_ready, without}
use Rattle.ipc_parked.specs.Parked.{waiting}
use Rattle.ipc_parked.proofs.Listed.{any_waiting, waiting_at}
use Rattle.ipc_namespace.specs.contracts.namespace.Namespace.{the_view}
use Rattle.ipc_namespace.specs.Namespace.{HasRowFor, sent_to, stands}
use Rattle.ipc_namespace.proofs.Calling.{alive-decides, answered-some, ends-so, left-waits, outcome-some, put_in, put_sems, sets-left, sets-outcome, receive-left, receive-outcome, receive-proceeds, send-answered, send-proceeds}
use Rattle.ipc_namespace.proofs.Held.{IsHeld, held-found, held-same}
use Rattle.ipc_namespace.proofs.Parked.{parked_found}
use Rattle.ipc_namespace.proofs.Reserved.{no_other}
use Rattle.ipc_namespace.proofs.namespace.Namespace.try_waiting.Goals as goal
use Rattle.ipc_namespace.proofs.namespace.Namespace.try_waiting.Goals.{After-caller_of-who, After-deref}

-- the client's call as it waits
there : (c : After-deref) → (until : Option ℕ) × (find (λ w. w.client == c.args.client) (waiting c.self.inside.parked) ≡ Some (record { client = c.args.client; call = c.call_of-call.result.now; deadline = until }))
there c = waiting_at c.args.client c.call_of-call.result.now c.self.inside.parked c.call_of-call.ensures

abbrev tried : After-deref → Waiting
tried c = record { client = c.args.client; call = c.call_of-call.result.now; deadline = (there c).0 }

own : (c : After-deref) → find (λ w. w.client == c.args.client) (waiting c.self.inside.parked) ≡ Some (tried c)
own c = (there c).1

of_client : (c : After-deref) → (c.args.client < length c.self.inside.clients.items) × (stands c.call_of-call.result.now ≡ true)
of_client c = let n = c.self.inside in parked_found (length n.clients.items) (λ w. w.client == c.args.client) (waiting n.parked) (tried c) c.self.invariant.1 (own c)

is_own : (c : After-deref) → waiting_of c.args.self.now c.args.client ≡ Some (tried c)
is_own c = sym (ap (λ (s : State). waiting_of s c.args.client) c.self.view_is) ∙ own c

pub call_of-call-requires : goal.call_of-call-requires
call_of-call-requires c = sym (any_waiting c.args.client c.self.inside.parked) ∙ ap (λ (s : State). is_waiting s c.args.client) c.self.view_is ∙ c.requires

is_held : (c : After-deref) → IsHeld c.self.inside.sets c.self.inside.processes.threads (tried c)
is_held c = held-found c.self.inside.sets c.self.inside.processes.threads (λ w. w.client == c.args.client) (waiting c.self.inside.parked) (tried c) c.self.invariant.3 (own c)

alive : (c : After-deref) → has_exited c.args.self.now c.args.client ≡ false
alive c = subst (λ (s : State). has_exited s c.args.client ≡ false) c.self.view_is (is_held c).0

-- what is decided of the call, its client being alive
as-decided : (c : After-deref) → proceeds (decide c.args.self.now c.args.client c.call_of-call.result.now) ≡ is_ready c.args.self.now (tried c)
as-decided c = sym (ap (λ d. proceeds d) (alive-decides c.args.self.now c.args.client c.call_of-call.result.now (alive c)))

pub caller_of-who-requires-clause-known : goal.caller_of-who-requires-clause-known
caller_of-who-requires-clause-known c = rw c.deref.ensures.value (of_client (goal.at.caller_of-who-requires-clause-known c).After-deref).0

called : (c : After-caller_of-who) → c.caller_of-who.result ≡ caller (the_view c.self.inside) c.args.client
called c = let e = c.caller_of-who.ensures in rw (c.deref.ensures.value, c.threads.ensures) at e

-- the state without the call
rest_is : (c : After-caller_of-who) → without (the_view c.self.inside) c.args.client ≡ without c.args.self.now c.args.client
rest_is c = ap (λ (s : State). without s c.args.client) c.self.view_is

pub end_send-requires-clause-alive : goal.end_send-requires-clause-alive
end_send-requires-clause-alive c = alive (goal.at.end_send-requires-clause-alive c).After-deref

pub end_send-requires-clause-sends : goal.end_send-requires-clause-sends
end_send-requires-clause-sends c =
    let b = (goal.at.end_send-requires-clause-sends c).After-deref in
    subst (λ o. IfSome o (λ (w : Waiting). IsSome (sent_to w.call))) (sym (is_own b)) (ap (λ (call : Call). is_some (sent_to call)) c.in-MsgSnd.is)

pub end_send-requires-clause-decided : goal.end_send-requires-clause-decided
end_send-requires-clause-decided c =
    let b = (goal.at.end_send-requires-clause-decided c).After-deref in
    let k = (goal.at.end_send-requires-clause-decided c).After-caller_of-who in
    let n = c.in-MsgSnd in
    let client = c.args.client in
    let t = without c.args.self.now client in
    let fits : SFits w64 n.mtype = search rules in
    subst (λ o. IfSome o (λ (w : Waiting). without_answer (decide t client w.call) ≡ Some c.in_ok-decided-in-MsgSnd.decided)) (sym (is_own b))
    (ap (λ (call : Call). without_answer (decide t client call)) n.is
    ∙ sym (send-answered (without (the_view k.self.inside) client) t client c.caller_of-who.result (rest_is k) (called k) n.id n.flags _ n.mtype n.text (to_z-of_z w64 n.mtype fits))
    ∙ sym (c.in_ok-decided-in-MsgSnd.ensures n.text (sym c.len.ensures)))

pub returns-in_ok-decided-in-MsgSnd-clause-ready : goal.returns-in_ok-decided-in-MsgSnd-clause-ready
returns-in_ok-decided-in-MsgSnd-clause-ready c =
    let b = (goal.at.returns-in_ok-decided-in-MsgSnd-clause-ready c).After-deref in
    let k = (goal.at.returns-in_ok-decided-in-MsgSnd-clause-ready c).After-caller_of-who in
    let n = c.in-MsgSnd in
    let s = c.args.self.now in
    let client = c.args.client in
    let fits : SFits w64 n.mtype = search rules in
    subst (λ o. IfSome o (λ (w : Waiting). true ≡ is_ready s w)) (sym (is_own b))
    (ap (λ o. is_some o) (c.in_ok-decided-in-MsgSnd.ensures n.text (sym c.len.ensures)) ∙ answered-some _
    ∙ send-proceeds (the_view k.self.inside) s client c.caller_of-who.result c.self.view_is (called k) n.id n.flags _ n.mtype n.text (to_z-of_z w64 n.mtype fits)
    ∙ ap (λ (call : Call). proceeds (decide s client call)) (sym n.is) ∙ as-decided b)

pub returns-in_err-decided-in-MsgSnd-clause-ready : goal.returns-in_err-decided-in-MsgSnd-clause-ready
returns-in_err-decided-in-MsgSnd-clause-ready c =
    let b = (goal.at.returns-in_err-decided-in-MsgSnd-clause-ready c).After-deref in
    let k = (goal.at.returns-in_err-decided-in-MsgSnd-clause-ready c).After-caller_of-who in
    let n = c.in-MsgSnd in
    let s = c.args.self.now in
    let client = c.args.client in
    let fits : SFits w64 n.mtype = search rules in
    subst (λ o. IfSome o (λ (w : Waiting). is_some c.from_residual.result ≡ is_ready s w)) (sym (is_own b))
    (ap (λ (o : Option Completion). is_some o) c.from_residual.ensures ∙ ap (λ o. is_some o) (c.in_err-decided-in-MsgSnd.ensures n.text (sym c.len.ensures)) ∙ answered-some _
    ∙ send-proceeds (the_view k.self.inside) s client c.caller_of-who.result c.self.view_is (called k) n.id n.flags _ n.mtype n.text (to_z-of_z w64 n.mtype fits)
    ∙ ap (λ (call : Call). proceeds (decide s client call)) (sym n.is) ∙ as-decided b)

pub returns-in_err-outcome-in-MsgRcv-clause-ready : goal.returns-in_err-outcome-in-MsgRcv-clause-ready
returns-in_err-outcome-in-MsgRcv-clause-ready c =
    let b = (goal.at.returns-in_err-outcome-in-MsgRcv-clause-ready c).After-deref in
    let k = (goal.at.returns-in_err-outcome-in-MsgRcv-clause-ready c).After-caller_of-who in
    let n = c.in-MsgRcv in
    let s = c.args.self.now in
    let client = c.args.client in
    let fits : SFits w64 n.msgtyp = search rules in
    subst (λ o. IfSome o (λ (w : Waiting). is_some c.from_residual-in_err-outcome-in-MsgRcv.result ≡ is_ready s w)) (sym (is_own b))
    (ap (λ (o : Option Completion). is_some o) c.from_residual-in_err-outcome-in-MsgRcv.ensures ∙ ap (λ (o : Option Outcome). is_some o) c.in_err-outcome-in-MsgRcv.ensures.outcome ∙ outcome-some _
    ∙ receive-proceeds (the_view k.self.inside) s client c.caller_of-who.result c.self.view_is (called k) n.id n.size n.flags _ n.msgtyp (to_z-of_z w64 n.msgtyp fits)
    ∙ ap (λ (call : Call). proceeds (decide s client call)) (sym n.is) ∙ as-decided b)

pub returns-in_err-outcome-in-MsgRcv-clause-none : goal.returns-in_err-outcome-in-MsgRcv-clause-none
returns-in_err-outcome-in-MsgRcv-clause-none c =
    let k = (goal.at.returns-in_err-outcome-in-MsgRcv-clause-none c).After-caller_of-who in
    rw c.from_residual-in_err-outcome-in-MsgRcv.ensures
    (ap (λ (q : Queues). put_in (the_view k.self.inside) q) (c.msgrcv.ensures.queues ∙ left-waits _ _ (sym c.in_err-outcome-in-MsgRcv.ensures.outcome)) ∙ c.self.view_is)

pub unreachable-requires : goal.unreachable-requires
unreachable-requires c =
    let b = (goal.at.unreachable-requires c).After-deref in
    no_other c.call_of-call.result.now (of_client b).1 c.in_default.not-MsgSnd c.in_default.not-MsgRcv c.in_default.not-SemOp

pub invariant_of-self-in-SemOp : goal.invariant_of-self-in-SemOp
invariant_of-self-in-SemOp c = (
  c.self.invariant.0,
  c.self.invariant.1,
  c.self.invariant.2,
  held-same c.self.inside.sets c.semop_reserved.new.self c.self.inside.processes.threads c.semop_reserved.ensures.rows (waiting c.self.inside.parked) c.self.invariant.3,
)

pub invariant_of-self-in_err-outcome-in-SemOp : goal.invariant_of-self-in_err-outcome-in-SemOp
invariant_of-self-in_err-outcome-in-SemOp c = (
  c.self.invariant.0,
  c.self.invariant.1,
  c.self.invariant.2,
  held-same c.self.inside.sets c.semop_reserved.new.self c.self.inside.processes.threads c.semop_reserved.ensures.rows (waiting c.self.inside.parked) c.self.invariant.3,
)

pub semop_reserved-requires : goal.semop_reserved-requires
semop_reserved-requires c =
    let b = (goal.at.semop_reserved-requires c).After-deref in
    let held = (is_held b).1 in
    subst (λ (ops : List SemOper). HasRow c.self.inside.sets c.caller_of-who.result.process c.in-SemOp.id ops) (sym c.as_slice.ensures)
    (subst (λ k. HasRow c.self.inside.sets k c.in-SemOp.id c.in-SemOp.ops) (sym (ap (λ (w : Caller). w.process) (called (goal.at.semop_reserved-requires c).After-caller_of-who)))
    (subst (λ (call : Call). HasRowFor c.self.inside.sets (slice_index_or c.self.inside.processes.threads c.args.client no_thread).process call) c.in-SemOp.is held))

-- the list hasn't changed
waits : (c : After-deref) → list_any (λ w. w.client == c.args.client) (waiting c.self.inside.parked) ≡ true
waits c = ap (λ (s : State). is_waiting s c.args.client) c.self.view_is ∙ c.requires

pub end_as-requires : goal.end_as-requires
end_as-requires c = waits (goal.at.end_as-requires c).After-deref

pub end_as-requires-in-SemOp : goal.end_as-requires-in-SemOp
end_as-requires-in-SemOp c = waits (goal.at.end_as-requires-in-SemOp c).After-deref

pub returns-in_ok-outcome-in-MsgRcv-clause-ready : goal.returns-in_ok-outcome-in-MsgRcv-clause-ready
returns-in_ok-outcome-in-MsgRcv-clause-ready c =
    let b = (goal.at.returns-in_ok-outcome-in-MsgRcv-clause-ready c).After-deref in
    let k = (goal.at.returns-in_ok-outcome-in-MsgRcv-clause-ready c).After-caller_of-who in
    let n = c.in-MsgRcv in
    let s = c.args.self.now in
    let client = c.args.client in
    let fits : SFits w64 n.msgtyp = search rules in
    subst (λ o. IfSome o (λ (w : Waiting). true ≡ is_ready s w)) (sym (is_own b))
    (ap (λ o. is_some o) c.in_ok-outcome-in-MsgRcv.ensures.outcome ∙ outcome-some _
    ∙ receive-proceeds (the_view k.self.inside) s client c.caller_of-who.result c.self.view_is (called k) n.id n.size n.flags _ n.msgtyp (to_z-of_z w64 n.msgtyp fits)
    ∙ ap (λ (call : Call). proceeds (decide s client call)) (sym n.is) ∙ as-decided b)

pub returns-in_ok-outcome-in-MsgRcv-clause-ended : goal.returns-in_ok-outcome-in-MsgRcv-clause-ended
returns-in_ok-outcome-in-MsgRcv-clause-ended c =
    let b = (goal.at.returns-in_ok-outcome-in-MsgRcv-clause-ended c).After-deref in
    let k = (goal.at.returns-in_ok-outcome-in-MsgRcv-clause-ended c).After-caller_of-who in
    let n = c.in-MsgRcv in
    let s = c.args.self.now in
    let client = c.args.client in
    let t = without s client in
    let back = to_z-of_z w64 n.msgtyp (let fits : SFits w64 n.msgtyp = search rules in fits) in
    let outcome = c.in_ok-outcome-in-MsgRcv.outcome in
    let new = c.end_as.new.self in
    subst (λ o. IfSome o (λ (w : Waiting). end_waiting s w ≡ record { state = new; ended = c.end_as.result ∷ [] })) (sym (is_own b))
    (ends-so s new client c.call_of-call.result.now (there b).0 outcome (alive b)
    (ap (λ (call : Call). outcome_of (decide t client call)) n.is
    ∙ sym (receive-outcome (without (the_view k.self.inside) client) t client c.caller_of-who.result (rest_is k) (called k) n.id n.size n.flags _ n.msgtyp back)
    ∙ sym c.in_ok-outcome-in-MsgRcv.ensures.outcome)
    (c.end_as.ensures.state
    ∙ receive-left (without (the_view k.self.inside) client) t client c.caller_of-who.result (rest_is k) (called k) n.id n.size n.flags _ n.msgtyp back (queues_of c.msgrcv.new.self) c.msgrcv.ensures.queues
    ∙ ap (λ (call : Call). left_by t (decide t client call)) (sym n.is))
    ∙ ap (λ (e : Completion). record { state = new; ended = e ∷ [] }) (sym c.end_as.ensures.ended))

-- a semop, as the code reads it
module _ (c : After-caller_of-who) (id : ℕ) (ops : List SemOper) (is : c.call_of-call.result.now ≡ SemOp id ops) where
  abbrev part : State → Caller → Plan Sems
  part t w = operate t.limits t.sems w id ops

  op-outcome : outcome_of (decision c.caller_of-who.result.creds (part (the_view c.self.inside) c.caller_of-who.result)) ≡ outcome_of (decide c.args.self.now c.args.client c.call_of-call.result.now)
  unfolding part_plan
  op-outcome =
      sets-outcome (SemOp id ops) part (the_view c.self.inside) c.args.self.now c.args.client c.caller_of-who.result c.self.view_is (called c) (λ t. refl)
      ∙ ap (λ (call : Call). outcome_of (decide c.args.self.now c.args.client call)) (sym is)

  op-rest : outcome_of (decision c.caller_of-who.result.creds (part (the_view c.self.inside) c.caller_of-who.result)) ≡ outcome_of (decide (without c.args.self.now c.args.client) c.args.client c.call_of-call.result.now)
  unfolding part_plan
  op-rest =
      sets-outcome (SemOp id ops) part (without (the_view c.self.inside) c.args.client) (without c.args.self.now c.args.client) c.args.client c.caller_of-who.result (rest_is c) (called c) (λ t. refl)
      ∙ ap (λ (call : Call). outcome_of (decide (without c.args.self.now c.args.client) c.args.client call)) (sym is)

  op-left : (sems : Sems) → sems ≡ left_by (the_view c.self.inside).sems (decision c.caller_of-who.result.creds (part (the_view c.self.inside) c.caller_of-who.result))
      → put_sems (without (the_view c.self.inside) c.args.client) sems ≡ left_by (without c.args.self.now c.args.client) (decide (without c.args.self.now c.args.client) c.args.client c.call_of-call.result.now)
  unfolding part_plan
  op-left sems so =
      sets-left (SemOp id ops) part (without (the_view c.self.inside) c.args.client) (without c.args.self.now c.args.client) c.args.client c.caller_of-who.result (rest_is c) (called c) (λ t. refl) sems so
      ∙ ap (λ (call : Call). left_by (without c.args.self.now c.args.client) (decide (without c.args.self.now c.args.client) c.args.client call)) (sym is)

pub returns-in_err-outcome-in-SemOp-clause-ready : goal.returns-in_err-outcome-in-SemOp-clause-ready
returns-in_err-outcome-in-SemOp-clause-ready c =
    let b = (goal.at.returns-in_err-outcome-in-SemOp-clause-ready c).After-deref in
    let k = (goal.at.returns-in_err-outcome-in-SemOp-clause-ready c).After-caller_of-who in
    let n = c.in-SemOp in
    let s = c.args.self.now in
    let is : c.call_of-call.result.now ≡ SemOp n.id c.as_slice.result.now = n.is ∙ ap (λ (ops : List SemOper). SemOp n.id ops) (sym c.as_slice.ensures) in
    subst (λ o. IfSome o (λ (w : Waiting). is_some c.from_residual-in_err-outcome-in-SemOp.result ≡ is_ready s w)) (sym (is_own b))
    (ap (λ (o : Option Completion). is_some o) c.from_residual-in_err-outcome-in-SemOp.ensures ∙ ap (λ (o : Option Outcome). is_some o) c.in_err-outcome-in-SemOp.ensures.outcome
    ∙ ap (λ (o : Option Outcome). is_some o) (op-outcome k n.id c.as_slice.result.now is) ∙ outcome-some _ ∙ as-decided b)

pub returns-in_err-outcome-in-SemOp-clause-none : goal.returns-in_err-outcome-in-SemOp-clause-none
returns-in_err-outcome-in-SemOp-clause-none c =
    let k = (goal.at.returns-in_err-outcome-in-SemOp-clause-none c).After-caller_of-who in
    rw c.from_residual-in_err-outcome-in-SemOp.ensures
    (ap (λ (u : Sems). put_sems (the_view k.self.inside) u) (c.semop_reserved.ensures.sems ∙ left-waits _ _ (sym c.in_err-outcome-in-SemOp.ensures.outcome)) ∙ c.self.view_is)

pub returns-in_ok-outcome-in-SemOp-clause-ready : goal.returns-in_ok-outcome-in-SemOp-clause-ready
returns-in_ok-outcome-in-SemOp-clause-ready c =
    let b = (goal.at.returns-in_ok-outcome-in-SemOp-clause-ready c).After-deref in
    let k = (goal.at.returns-in_ok-outcome-in-SemOp-clause-ready c).After-caller_of-who in
    let n = c.in-SemOp in
    let s = c.args.self.now in
    let is : c.call_of-call.result.now ≡ SemOp n.id c.as_slice.result.now = n.is ∙ ap (λ (ops : List SemOper). SemOp n.id ops) (sym c.as_slice.ensures) in
    subst (λ o. IfSome o (λ (w : Waiting). true ≡ is_ready s w)) (sym (is_own b))
    (ap (λ (o : Option Outcome). is_some o) (c.in_ok-outcome-in-SemOp.ensures.outcome ∙ op-outcome k n.id c.as_slice.result.now is) ∙ outcome-some _ ∙ as-decided b)

pub returns-in_ok-outcome-in-SemOp-clause-ended : goal.returns-in_ok-outcome-in-SemOp-clause-ended
returns-in_ok-outcome-in-SemOp-clause-ended c =
    let b = (goal.at.returns-in_ok-outcome-in-SemOp-clause-ended c).After-deref in
    let k = (goal.at.returns-in_ok-outcome-in-SemOp-clause-ended c).After-caller_of-who in
    let n = c.in-SemOp in
    let s = c.args.self.now in
    let client = c.args.client in
    let is : c.call_of-call.result.now ≡ SemOp n.id c.as_slice.result.now = n.is ∙ ap (λ (ops : List SemOper). SemOp n.id ops) (sym c.as_slice.ensures) in
    let new = c.end_as-in-SemOp.new.self in
    subst (λ o. IfSome o (λ (w : Waiting). end_waiting s w ≡ record { state = new; ended = c.end_as-in-SemOp.result ∷ [] })) (sym (is_own b))
    (ends-so s new client c.call_of-call.result.now (there b).0 c.in_ok-outcome-in-SemOp.outcome (alive b)
    (sym (op-rest k n.id c.as_slice.result.now is) ∙ sym c.in_ok-outcome-in-SemOp.ensures.outcome)
    (c.end_as-in-SemOp.ensures.state ∙ op-left k n.id c.as_slice.result.now is (sems_of c.semop_reserved.new.self) c.semop_reserved.ensures.sems)
    ∙ ap (λ (e : Completion). record { state = new; ended = e ∷ [] }) (sym c.end_as-in-SemOp.ensures.ended))
