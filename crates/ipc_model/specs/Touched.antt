-- Which object the grant of a call touches. A call that waits elsewhere is decided as before, so only the calls that
-- wait on what was touched have to be tried.
use Rattle.std.specs.Prelude.{ℕ, ◌==◌, ◌&&◌, Bool, false, Option, Some, None, option_map, unwrap_or}
use Rattle.ipc_call.specs.declared.calls.Call.TheVariants.{MsgGet, MsgSnd, MsgRcv, SemGet, SemOp, SemTimedOp, SetVal, SetAll, IpcSet, IpcRmid, Kill, Exit}
use Rattle.ipc_call.specs.declared.calls.Kind.TheVariants as kinds
use Rattle.ipc_ids.specs.Table.{next_id}
use Rattle.std.specs.List.{find}
use Rattle.sem_set.specs.Exits.{any_from}
use Rattle.sem_undo.specs.Entries.{adj_of}
use Rattle.ipc_model.specs.State.{Call, Kind, Sems, State, Thread, Waiting, has_pid, process_at}
use Rattle.ipc_model.specs.Cancelled.{is_same}
use Rattle.ipc_model.specs.Decide.{waits_at}
use Rattle.ipc_model.specs.Semaphores.{set_at}

abbrev pub is_object : Kind → ℕ → Kind → ℕ → Bool
is_object at id kind i = is_same at kind && id == i

abbrev pub is_id : Option ℕ → ℕ → Bool
is_id None i = false
is_id (Some id) i = id == i

-- the end of a process adds something to a semaphore of the set: a semadj of the process isn't 0
abbrev pub owes : Sems → ℕ → ℕ → Bool
owes sems process id = unwrap_or
    (option_map (λ set. any_from (adj_of sems.undo process id) 0 set.contents.semaphores) (set_at sems id)) false

-- the same of the process of the thread that is found
abbrev pub thread_owes : Sems → ℕ → Option Thread → Bool
thread_owes sems id None = false
thread_owes sems id (Some thread) = owes sems thread.process id

-- the grant of the client's call touches the object of this kind and identifier: a get the object that it creates, exit
-- and kill each set to which the end of the process adds something, and others the object that they name, where they change it
abbrev pub touches : State → ℕ → Call → Kind → ℕ → Bool
touches s client (MsgGet key flags) kind i = is_same kinds.Queue kind && is_id (next_id s.queues) i
touches s client (MsgSnd id mtype text flags) kind i = is_object kinds.Queue id kind i
touches s client (MsgRcv id size msgtyp flags) kind i = is_object kinds.Queue id kind i
touches s client (SemGet key nsems flags) kind i = is_same kinds.Sems kind && is_id (next_id s.sems.sets) i
touches s client (SemOp id ops) kind i = is_object kinds.Sems id kind i
touches s client (SemTimedOp id ops timeout) kind i = is_object kinds.Sems id kind i
touches s client (SetVal id num value) kind i = is_object kinds.Sems id kind i
touches s client (SetAll id values) kind i = is_object kinds.Sems id kind i
touches s client (IpcSet at id uid gid mode qbytes) kind i = is_object at id kind i
touches s client (IpcRmid at id) kind i = is_object at id kind i
touches s client (Kill pid) kind i = is_same kinds.Sems kind && thread_owes s.sems i (find (has_pid pid) s.threads)
touches s client Exit kind i = is_same kinds.Sems kind && owes s.sems (process_at s client) i
touches s client call kind i = false

-- it touches the object on which a call waits
abbrev pub touches_place : State → ℕ → Call → Waiting → Bool
touches_place s client call w = unwrap_or (option_map (λ at. touches s client call at.0 at.1) (waits_at w.call)) false
