-- The decision on each call, and what it needs of its caller.
use Rattle.std.specs.Prelude.{ℕ, ◌+◌, ◌==◌, min, nat_le, pos, int_lt, Bool, true, false, not, ◌&&◌, ◌||◌, List, Option, Some, None, is_some}
use Rattle.std.specs.List.{count_by}
use Rattle.std.specs.Ordering.{int_eq}
use Rattle.ipc_call.specs.declared.calls.Call.TheVariants.{MsgGet, MsgSnd, MsgRcv, SemGet, SemOp, SemTimedOp, GetVal, GetPid, GetNcnt, GetZcnt, GetAll, SetVal, SetAll, ShmGet, ShmAt, ShmDt, ShmRead, ShmWrite, IpcStat, IpcSet, IpcRmid, Listing, Interrupt, InterruptThread, Kill, SetCreds, Assume, Begin, Fork, Clone, Name, Exec, Exit}
use Rattle.ipc_call.specs.declared.rules.Rule.TheVariants.{Ended, TimedOut}
use Rattle.ipc_call.specs.declared.calls.Kind.TheVariants as kinds
use Rattle.ipc_perm.specs.Access.{Need}
use Rattle.ipc_model.specs.State.{Call, Caller, Kind, Message, Queues, SemOper, Sems, Shared, State, caller, creds_at, has_exited, process_at}
use Rattle.ipc_model.specs.Decision.{Decision}
use Rattle.ipc_model.specs.Decision as decisions
use Rattle.ipc_model.specs.Plan.{Passes, Plan, decision, needs_in, on_part, ◌⨾◌}
use Rattle.ipc_model.specs.Gets.{get_queue, get_segment, get_set}
use Rattle.ipc_model.specs.Messages.{receive_message, send_message}
use Rattle.ipc_model.specs.Semaphores.{get_all, get_pid, get_value, look, operate, set_all, set_value, stopping}
use Rattle.ipc_model.specs.Segments.{attach, detach, read_bytes, write_bytes}
use Rattle.ipc_model.specs.Processes.{assume, begin, clone, exec, exit, fork, interrupt, interrupt_thread, kill, name, set_creds}
use Rattle.ipc_model.specs.Controls.{remove_object, set_object, stat_object}
use Rattle.ipc_model.specs.Listings.{list_objects}

-- a semop of a client stops at an operation that passes
abbrev pub is_stopped_at : (SemOper → Bool) → Option SemOper → Bool
is_stopped_at which None = false
is_stopped_at which (Some o) = which o

-- a call of a process waits on the set for an operation that passes
abbrev pub waits_for : Sems → ℕ → (SemOper → Bool) → ℕ → Call → Bool
waits_for sems id which process (SemOp other ops) = other == id && is_stopped_at which (stopping sems process id ops)
waits_for sems id which process call = false

-- GETNCNT and GETZCNT: each waiting semop is counted where it stops now
abbrev pub get_waiting : State → ℕ → ℕ → (SemOper → Bool) → Plan Sems
get_waiting s id num which =
    look s.sems id num (λ _. count_by (λ w. waits_for s.sems id which (process_at s w.client) w.call) s.parked)

-- it waits for the value to rise, or to become 0
abbrev pub is_negative : ℕ → SemOper → Bool
is_negative num o = o.num == num && int_lt o.op (pos 0)

abbrev pub is_zero : ℕ → SemOper → Bool
is_zero num o = o.num == num && int_eq o.op (pos 0)

-- the plan of a call, by the part of the state that the call may change
pub data PartPlan : Type 0 where
  OnQueues : (plan : Plan Queues) → PartPlan
  OnSems : (plan : Plan Sems) → PartPlan
  OnShared : (plan : Plan Shared) → PartPlan
  OnState : (plan : Plan State) → PartPlan

abbrev pub whole : State → PartPlan → Plan State
whole s (OnQueues plan) = on_part (λ queues. record s { queues = queues }) plan
whole s (OnSems plan) = on_part (λ sems. record s { sems = sems }) plan
whole s (OnShared plan) = on_part (λ shared. record s { shared = shared }) plan
whole s (OnState plan) = plan

-- each call as a row of the table of checks
unfoldable pub part_plan : State → Caller → Call → PartPlan
part_plan s who (MsgGet key flags) = OnQueues (get_queue s.limits s.queues who (record { key = key; flags = flags }))
part_plan s who (MsgSnd id mtype text flags) =
    let message : Message = record { mtype = mtype; text = text } in
    OnQueues (send_message s.limits s.queues who id (record { message = message; flags = flags }))
part_plan s who (MsgRcv id size msgtyp flags) =
    OnQueues (receive_message s.queues who id (record { size = size; msgtyp = msgtyp; flags = flags }))
part_plan s who (SemGet key nsems flags) =
    OnSems (get_set s.limits s.sems who (record { key = key; flags = flags }) nsems)
part_plan s who (SemOp id ops) = OnSems (operate s.limits s.sems who id ops)
part_plan s who (SemTimedOp id ops timeout) = OnSems (operate s.limits s.sems who id ops)
part_plan s who (GetVal id num) = OnSems (get_value s.sems id num)
part_plan s who (GetPid id num) = OnSems (get_pid s.sems id num)
part_plan s who (GetNcnt id num) = OnSems (get_waiting s id num (is_negative num))
part_plan s who (GetZcnt id num) = OnSems (get_waiting s id num (is_zero num))
part_plan s who (GetAll id) = OnSems (get_all s.sems id)
part_plan s who (SetVal id num value) = OnSems (set_value s.sems who id num value)
part_plan s who (SetAll id values) = OnSems (set_all s.sems who id values)
part_plan s who (ShmGet key size flags) =
    OnShared (get_segment s.limits s.shared who (record { key = key; flags = flags }) size)
part_plan s who (ShmAt id flags) = OnShared (attach s.shared who id flags)
part_plan s who (ShmDt att) = OnShared (detach s.shared who att)
part_plan s who (ShmRead att offset len) = OnShared (read_bytes s.shared who att offset len)
part_plan s who (ShmWrite att offset bytes) = OnShared (write_bytes s.shared who att offset bytes)
part_plan s who (IpcStat kind id) = OnState (stat_object s kind id)
part_plan s who (IpcSet kind id uid gid mode qbytes) =
    OnState (set_object s kind id (record { uid = uid; gid = gid; mode = mode; qbytes = qbytes }))
part_plan s who (IpcRmid kind id) = OnState (remove_object s kind id)
part_plan s who (Listing kind) = OnState (list_objects s who kind)
part_plan s who (Interrupt pid) = OnState (interrupt s who pid)
part_plan s who (InterruptThread client) = OnState (interrupt_thread s who client)
part_plan s who (Kill pid) = OnState (kill s who pid)
part_plan s who (SetCreds euid egid groups) = OnState (set_creds s who euid egid groups)
part_plan s who (Assume creds) = OnState (assume s who creds)
part_plan s who (Begin pid creds) = OnState (begin s who pid creds)
part_plan s who (Fork child pid) = OnState (fork s who child pid)
part_plan s who (Clone child) = OnState (clone s who child)
part_plan s who (Name pid) = OnState (name s who pid)
part_plan s who Exec = OnState (exec s who)
part_plan s who Exit = OnState (exit s who)

-- a call by which a client begins whose thread has ended
abbrev pub begins : Call → Bool
begins (Begin pid creds) = true
begins call = false

-- a call that hands in a client's credentials
abbrev pub hands_in : Call → Bool
hands_in (Assume creds) = true
hands_in (Begin pid creds) = true
hands_in call = false

-- the client's thread hasn't ended, or it begins anew
abbrev pub may_call : State → ℕ → Call → Bool
may_call s client call = begins call || not (has_exited s client)

-- of a client that may call
abbrev pub plan_alive : State → ℕ → Call → Plan State
plan_alive s client call = whole s (part_plan s (caller s client) call)

-- before all else the client's thread hasn't ended, or it begins anew (ESRCH; the project's own)
abbrev pub plan : State → ℕ → Call → Plan State
plan s client call = Passes (may_call s client call) Ended _ ⨾ plan_alive s client call

-- the decision relation: the credentials are the caller's, by its number
abbrev pub decide : State → ℕ → Call → Decision State
decide s client call = decision (creds_at s client) (plan s client call)

abbrev pub decide_alive : State → ℕ → Call → Decision State
decide_alive s client call = decision (creds_at s client) (plan_alive s client call)

-- the needs on the object that the call names
abbrev pub needs : State → ℕ → Call → List Need
needs s client call = needs_in (plan s client call)

-- the object at which the call may wait: its kind and identifier
abbrev pub waits_at : Call → Option (Kind × ℕ)
waits_at (MsgSnd id mtype text flags) = Some (kinds.Queue, id)
waits_at (MsgRcv id size msgtyp flags) = Some (kinds.Queue, id)
waits_at (SemOp id ops) = Some (kinds.Sems, id)
waits_at (SemTimedOp id ops timeout) = Some (kinds.Sems, id)
waits_at call = None

-- a call that may wait
abbrev pub can_wait : Call → Bool
can_wait call = is_some (waits_at call)

-- as what a call waits: semtimedop as the semop that it is but for its deadline
abbrev pub waits_as : Call → Call
waits_as (SemTimedOp id ops timeout) = SemOp id ops
waits_as call = call

-- the second of the clock at which a call that would wait now ends, where it waits no longer: of semtimedop so many
-- seconds from now, or the last that a clock can show (the project's own)
abbrev pub deadline_of : ℕ → Call → Option ℕ
deadline_of now (SemTimedOp id ops timeout) = Some (min (now + timeout) 18446744073709551615)
deadline_of now call = None

abbrev pub is_reached : ℕ → Option ℕ → Bool
is_reached clock None = false
is_reached clock (Some deadline) = nat_le deadline clock

-- a call that would have to wait, and whose deadline isn't above the clock, is refused (EAGAIN of semop(2))
abbrev pub at_once : {X : Type 0} → Decision X → Decision X
at_once (decisions.Refused rule) = decisions.Refused rule
at_once decisions.Waits = decisions.Refused TimedOut
at_once (decisions.Granted answer new) = decisions.Granted answer new

abbrev pub unless_late : {X : Type 0} → Bool → Decision X → Decision X
unless_late true d = at_once d
unless_late false d = d

abbrev pub is_late : State → Call → Bool
is_late s call = is_reached s.clock (deadline_of s.clock call)

-- what is decided on a call that a client makes
abbrev pub decide_call : State → ℕ → Call → Decision State
decide_call s client call = unless_late (is_late s call) (decide s client call)
