-- How each call can end: with which answer it can be granted, and which waiting call a completion ends.
use Rattle.std.specs.Prelude.{◌==◌, Bool, true, false, ◌&&◌, List, Ok, Err}
use Rattle.std.specs.List.{list_any}
use Rattle.ipc_call.specs.declared.calls.Call.{Call}
use Rattle.ipc_call.specs.declared.calls.Call.TheVariants.{MsgGet, MsgSnd, MsgRcv, SemGet, SemOp, SemTimedOp, GetVal, GetPid, GetNcnt, GetZcnt, GetAll}
use Rattle.ipc_call.specs.declared.calls.Call.TheVariants.{SetVal, SetAll, ShmGet, ShmAt, ShmDt, ShmRead, ShmWrite, IpcStat, IpcSet, IpcRmid, Listing, Interrupt, InterruptThread, Kill}
use Rattle.ipc_call.specs.declared.calls.Call.TheVariants.{SetCreds, Assume, Begin, Fork, Clone, Name, Exec, Exit}
use Rattle.ipc_call.specs.declared.calls.Kind.{Kind}
use Rattle.ipc_call.specs.declared.calls.Kind.TheVariants as kinds
use Rattle.ipc_call.specs.declared.replies.Answer.{Answer}
use Rattle.ipc_call.specs.declared.replies.Answer.TheVariants.{Id, Done, Message, Status as StatusAnswer, Value, Values, Attached, Bytes, Rows}
use Rattle.ipc_call.specs.declared.replies.Completion.{Completion}
use Rattle.ipc_call.specs.declared.replies.Status.{Status}
use Rattle.ipc_call.specs.declared.replies.Status.TheVariants as statuses
use Rattle.ipc_call.specs.declared.replies.Waiting.{Waiting}
use Rattle.ipc_model.specs.Decision.{Outcome}

-- a status is that of an object of the kind
abbrev pub is_status_of : Kind → Status → Bool
is_status_of kinds.Queue (statuses.Queue status) = true
is_status_of kinds.Sems (statuses.Set status) = true
is_status_of kinds.Segment (statuses.Segment status) = true
is_status_of kind status = false

-- the answer is one that a grant of the call can give
abbrev pub can_give : Call → Answer → Bool
can_give (MsgGet key flags) (Id id) = true
can_give (MsgSnd id mtype text flags) Done = true
can_give (MsgRcv id size msgtyp flags) (Message mtype text) = true
can_give (SemGet key nsems flags) (Id id) = true
can_give (SemOp id ops) Done = true
can_give (SemTimedOp id ops timeout) Done = true
can_give (GetVal id num) (Value value) = true
can_give (GetPid id num) (Value value) = true
can_give (GetNcnt id num) (Value value) = true
can_give (GetZcnt id num) (Value value) = true
can_give (GetAll id) (Values values) = true
can_give (SetVal id num value) Done = true
can_give (SetAll id values) Done = true
can_give (ShmGet key size flags) (Id id) = true
can_give (ShmAt id flags) (Attached number) = true
can_give (ShmDt att) Done = true
can_give (ShmRead att offset len) (Bytes bytes) = true
can_give (ShmWrite att offset bytes) Done = true
can_give (IpcStat kind id) (StatusAnswer status) = is_status_of kind status
can_give (IpcSet kind id uid gid mode qbytes) Done = true
can_give (IpcRmid kind id) Done = true
can_give (Listing kind) (Rows rows) = true
can_give (Interrupt pid) Done = true
can_give (InterruptThread client) Done = true
can_give (Kill pid) Done = true
can_give (SetCreds euid egid groups) Done = true
can_give (Assume creds) Done = true
can_give (Begin pid creds) Done = true
can_give (Fork child pid) Done = true
can_give (Clone child) Done = true
can_give (Name pid) Done = true
can_give Exec Done = true
can_give Exit Done = true
can_give call answer = false

-- the call can end so: any call can be refused
abbrev pub can_end : Call → Outcome → Bool
can_end call (Ok answer) = can_give call answer
can_end call (Err rule) = true

-- one of these calls that wait is of the client that it names, and can end so
abbrev pub is_end_of : List Waiting → Completion → Bool
is_end_of waiting completion = list_any (λ w. w.client == completion.client && can_end w.call completion.outcome) waiting
