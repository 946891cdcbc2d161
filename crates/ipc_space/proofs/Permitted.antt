-- After every event no waiting call is ready, each has the rights that it needs, and every marked segment has an attachment.
use Rattle.std.proofs.Common.{◌≡◌, ℕ, Bool, true, false, List, [], ◌∷◌, length, refl, sym, ap, ◌∙◌, cond, Option, Some, None}
use Rattle.std.specs.Prelude.{pos, int_le, nat_le, nat_lt, option_map}
use Rattle.std.specs.List.{AllByRecursion}
use Rattle.std.proofs.lemmas.Bool.{true≢false}
use Rattle.ipc_call.specs.declared.settings.Receive.{Receive}
use Rattle.ipc_call.specs.declared.calls.Call.{Call}
use Rattle.ipc_call.specs.declared.calls.Call.TheVariants.{MsgSnd, MsgRcv, SemOp, SemTimedOp}
use Rattle.ipc_call.specs.declared.calls.SemOper.{SemOper}
use Rattle.ipc_call.specs.declared.replies.Waiting.{Waiting}
use Rattle.ipc_call.specs.declared.rules.Rule.{Rule}
use Rattle.ipc_call.specs.declared.rules.Rule.TheVariants.{BadType, Ended, NoOperations, TextTooLong, TooManyOperations}
use Rattle.ipc_creds.specs.Credentials.{Credentials}
use Rattle.ipc_perm.specs.Access.{Permission, denial, to_alter, to_read}
use Rattle.ipc_model.specs.State.{Caller, Queue, Queues, SemSet, Sems, State, caller, creds_at}
use Rattle.ipc_model.specs.Decision.{Decision, Refused, proceeds}
use Rattle.ipc_model.specs.Plan.{decision, unless}
use Rattle.ipc_model.specs.Messages.{queue_at, receive_found, receive_message, send_found, send_message, Send}
use Rattle.ipc_model.specs.Semaphores.{operate, operate_found, set_at, wanted_by}
use Rattle.ipc_objects.specs.declared.object.Object.{Object}
use Rattle.ipc_model.proofs.Alike.{proceeds-on}
use Rattle.ipc_model.proofs.Needs.{needs_for, operator-needs, receiver-needs, sender-needs, timed-needs}
use Rattle.ipc_model.specs.Decide.{can_wait, decide, decide_alive, may_call, needs, part_plan}
use Rattle.ipc_model.specs.Cancelled.{first_denial, or_later}
use Rattle.ipc_history.specs.History.{History, run}
use Rattle.ipc_model.specs.Step.{is_ready}
use Rattle.ipc_history.specs.Waits.{AreNotReady, ArePermitted, AreInTime}
use Rattle.ipc_model.specs.Segments.{AreAttached}
use Rattle.ipc_model.proofs.Calls.{only_parkable}
use Rattle.ipc_history.proofs.Runs.{attached-run}
use Rattle.ipc_namespace.proofs.Own.{found-none}
use Rattle.ipc_space.proofs.Quiet.{IsQuiet, quiet-run}
use Rattle.ipc_laws.proofs.Deadlines.{in-time-run}

passes-waits : {X : Type 0} (b : Bool) (rule : Rule) (d : Decision X) → proceeds (cond b d (Refused rule)) ≡ false → proceeds d ≡ false
passes-waits true rule d waits = waits
passes-waits false rule d waits = absurd (true≢false waits)

need-waits : {X : Type 0} (o : Option Rule) (d : Decision X) → proceeds (unless o d) ≡ false → o ≡ None
need-waits None d waits = refl
need-waits (Some rule) d waits = absurd (true≢false waits)

module _ (queues : Queues) (who : Caller) (c : Credentials) (id : ℕ) where
  sender-permitted : (asked : Send) (queue : Option (Object Queue)) → proceeds (decision c (send_found queues who id asked queue)) ≡ false → first_denial c (needs_for to_alter (option_map (λ q. q.perm) queue)) ≡ None
  sender-permitted asked None waits = refl
  sender-permitted asked (Some queue) waits = ap (λ o. or_later o None) (need-waits (denial c (Permission queue.perm to_alter)) _ waits)

  receiver-permitted : (asked : Receive) (queue : Option (Object Queue)) → proceeds (decision c (receive_found queues who id asked queue)) ≡ false → first_denial c (needs_for to_read (option_map (λ q. q.perm) queue)) ≡ None
  receiver-permitted asked None waits = refl
  receiver-permitted asked (Some queue) waits = ap (λ o. or_later o None) (need-waits (denial c (Permission queue.perm to_read)) _ waits)

operator-permitted : (sems : Sems) (who : Caller) (c : Credentials) (id : ℕ) (ops : List SemOper) (set : Option (Object SemSet)) → proceeds (decision c (operate_found sems who id ops set)) ≡ false
    → first_denial c (needs_for (wanted_by ops) (option_map (λ o. o.perm) set)) ≡ None
operator-permitted sems who c id ops None waits = refl
operator-permitted sems who c id ops (Some set) waits = ap (λ o. or_later o None) (need-waits (denial c (Permission set.perm (wanted_by ops))) _ waits)

-- a call that waits has the rights that it needs
permitted-alive : (s : State) (client : ℕ) (call : Call) → can_wait call ≡ true → proceeds (decide_alive s client call) ≡ false → first_denial (creds_at s client) (needs s client call) ≡ None
unfolding part_plan
permitted-alive s client (MsgSnd id mtype text flags) can waits =
    let asked : Send = record { message = record { mtype = mtype; text = text }; flags = flags } in
    let c = creds_at s client in
    let who = caller s client in
    let p = send_message s.limits s.queues who id asked in
    let rest = decision c (send_found s.queues who id asked (queue_at s.queues id)) in
    let here = sym (proceeds-on c (λ queues. record s { queues = queues }) p) ∙ waits in
    ap (λ ns. first_denial c ns) (sender-needs s client id mtype text flags)
    ∙ sender-permitted s.queues who c id asked (queue_at s.queues id)
    (passes-waits (nat_le (length text) s.limits.msg_max) TextTooLong rest (passes-waits (int_le (pos 1) mtype) BadType (cond (nat_le (length text) s.limits.msg_max) rest (Refused TextTooLong)) here))
permitted-alive s client (MsgRcv id size msgtyp flags) can waits =
    let asked : Receive = record { size = size; msgtyp = msgtyp; flags = flags } in
    let c = creds_at s client in
    let who = caller s client in
    let p = receive_message s.queues who id asked in
    ap (λ ns. first_denial c ns) (receiver-needs s client id size msgtyp flags)
    ∙ receiver-permitted s.queues who c id asked (queue_at s.queues id) (sym (proceeds-on c (λ queues. record s { queues = queues }) p) ∙ waits)
permitted-alive s client (SemOp id ops) can waits =
    let c = creds_at s client in
    let who = caller s client in
    let p = operate s.limits s.sems who id ops in
    let rest = decision c (operate_found s.sems who id ops (set_at s.sems id)) in
    let few = nat_le (length ops) s.limits.sem_opm in
    ap (λ ns. first_denial c ns) (operator-needs s client id ops)
    ∙ operator-permitted s.sems who c id ops (set_at s.sems id)
    (passes-waits few TooManyOperations rest (passes-waits (nat_lt 0 (length ops)) NoOperations (cond few rest (Refused TooManyOperations))
    (sym (proceeds-on c (λ sems. record s { sems = sems }) p) ∙ waits)))
permitted-alive s client (SemTimedOp id ops timeout) can waits =
    let c = creds_at s client in
    let who = caller s client in
    let p = operate s.limits s.sems who id ops in
    let rest = decision c (operate_found s.sems who id ops (set_at s.sems id)) in
    let few = nat_le (length ops) s.limits.sem_opm in
    ap (λ ns. first_denial c ns) (timed-needs s client id ops timeout)
    ∙ operator-permitted s.sems who c id ops (set_at s.sems id)
    (passes-waits few TooManyOperations rest (passes-waits (nat_lt 0 (length ops)) NoOperations (cond few rest (Refused TooManyOperations))
    (sym (proceeds-on c (λ sems. record s { sems = sems }) p) ∙ waits)))
permitted-alive s client call can waits = absurd (true≢false (sym can))

permitted : (s : State) (client : ℕ) (call : Call) → can_wait call ≡ true → proceeds (decide s client call) ≡ false → first_denial (creds_at s client) (needs s client call) ≡ None
permitted s client call can waits = permitted-alive s client call can (passes-waits (may_call s client call) Ended (decide_alive s client call) waits)

not_ready : (s : State) → IsQuiet s → AreNotReady s
not_ready s quiet = found-none (is_ready s) s.parked quiet

all-permitted : (s : State) (ws : List Waiting) → AllByRecursion (λ w. is_ready s w ≡ false) ws → AllByRecursion (λ w. first_denial (creds_at s w.client) (needs s w.client w.call) ≡ None) ws
all-permitted s [] quiet = tt
all-permitted s (w ∷ ws) quiet = (permitted s w.client w.call (only_parkable s w.client w.call quiet.0) quiet.0, all-permitted s ws quiet.1)

-- after every history
pub run_not_ready : (h : History) → AreNotReady (run h)
run_not_ready h = not_ready (run h) (quiet-run h)

pub run_permitted : (h : History) → ArePermitted (run h)
run_permitted h = all-permitted (run h) (run h).parked (run_not_ready h)

pub run_attached : (h : History) → AreAttached (run h).shared
run_attached h = attached-run h

-- nobody waits past a deadline
pub run_in_time : (h : History) → AreInTime (run h)
run_in_time = in-time-run
