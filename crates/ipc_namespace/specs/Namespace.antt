-- What is true of the calls that wait, and what a granted call ends of them.
use Rattle.std.specs.Prelude.{◌≡◌, ⊤, Ok, Err, Result, ℕ, ◌+◌, ◌<◌, ◌==◌, Bool, true, false, List, [], ◌∷◌, drop, filter, flat_map, map, not, option_map, is_none, Option, Some, None, IfSome, IsSome, if◌then◌else◌, slice_index_or}
use Rattle.std.specs.List.{AllByRecursion, find, zip}
use Rattle.ipc_call.specs.declared.replies.Waiting.{Waiting}
use Rattle.ipc_call.specs.declared.calls.Call.{Call}
use Rattle.ipc_call.specs.declared.calls.Call.TheVariants.{MsgSnd, MsgRcv, SemOp, SemGet, GetNcnt, GetZcnt, GetVal, GetPid, GetAll, SetVal, SetAll, ShmGet, ShmAt, ShmDt, ShmRead, ShmWrite, IpcSet, IpcRmid, Interrupt, InterruptThread, Kill, Exec}
use Rattle.ipc_call.specs.declared.replies.Completion.{Completion}
use Rattle.ipc_call.specs.declared.rules.Rule.{Rule}
use Rattle.ipc_call.specs.declared.rules.Rule.TheVariants.{Ended, Removed, Interrupted}
use Rattle.ipc_ids.specs.Table.{Table}
use Rattle.ipc_objects.specs.declared.object.Object.{Object}
use Rattle.msg_calls.specs.WithRoom.{QueueWithRoom, one_if, room}
use Rattle.sem_calls.specs.WithRows.{SetsWithRows, HasRow}
use Rattle.ipc_perm.specs.declared.access.Verdict.{Verdict}
use Rattle.ipc_perm.specs.declared.access.Verdict.TheVariants.{Allowed, Denied}
use Rattle.ipc_model.specs.State.{Sems, State, Thread, creds_at, has_exited, has_pid, no_thread, pid_at, process_at, runs, thread_at}
use Rattle.ipc_model.specs.Semaphores.{set_at}
use Rattle.sem_set.specs.Trials.{are_in}
use Rattle.ipc_model.specs.Plan.{Check, Needs}
use Rattle.ipc_perm.specs.Access.{SameUser}
use Rattle.ipc_model.specs.Decide.{decide_alive, is_late, is_negative, is_zero, needs, unless_late}
use Rattle.ipc_model.specs.Cancelled.{first_denial, waits_on}
use Rattle.ipc_model.specs.Decision.{Decision, Outcome, left_by}
use Rattle.ipc_model.specs.Step.{Moved, cancelled_by, is_ready, state_by, ended_by_rule}
use Rattle.ipc_parked.specs.Parked.{AreApart}
use Rattle.ipc_call.specs.declared.calls.SemOper.{SemOper}
use Rattle.ipc_namespace.specs.declared.semaphore_calls.Awaited.{Awaited}
use Rattle.ipc_namespace.specs.declared.semaphore_calls.Awaited.TheVariants as awaits
use Rattle.ipc_namespace.specs.declared.cancelling.Cancelling.{Cancelling}
use Rattle.ipc_namespace.specs.declared.cancelling.Cancelling.TheVariants as cancellings

-- a call that stands among those that wait
abbrev pub stands : Call → Bool
stands (MsgSnd id mtype text flags) = true
stands (MsgRcv id size msgtyp flags) = true
stands (SemOp id ops) = true
stands call = false

-- each is of a client that there is, of so many, and may wait; no two are of one client
unfoldable pub AreParked : ℕ → List Waiting → Type 0
AreParked clients ws = AllByRecursion (λ w. (w.client < clients) × (stands w.call ≡ true)) ws × AreApart ws

-- a call on semaphore sets that doesn't wait, and isn't one of objects of any kind
abbrev pub is_on_sets : Call → Bool
is_on_sets (SemGet key nsems flags) = true
is_on_sets (GetVal id num) = true
is_on_sets (GetPid id num) = true
is_on_sets (GetAll id) = true
is_on_sets (SetVal id num value) = true
is_on_sets (SetAll id values) = true
is_on_sets call = false

-- a call on segments that isn't one of objects of any kind
abbrev pub is_on_segments : Call → Bool
is_on_segments (ShmGet key size flags) = true
is_on_segments (ShmAt id flags) = true
is_on_segments (ShmDt att) = true
is_on_segments (ShmRead att offset len) = true
is_on_segments (ShmWrite att offset bytes) = true
is_on_segments call = false

-- a call that counts waiting calls, or may end them: it takes no memory
abbrev pub is_on_waiting : Call → Bool
is_on_waiting (GetNcnt id num) = true
is_on_waiting (GetZcnt id num) = true
is_on_waiting (IpcSet kind id uid gid mode qbytes) = true
is_on_waiting (IpcRmid kind id) = true
is_on_waiting (Interrupt pid) = true
is_on_waiting (InterruptThread client) = true
is_on_waiting (Kill pid) = true
is_on_waiting Exec = true
is_on_waiting call = false

-- the operation waits for it at the semaphore of this number
abbrev pub is_awaited : Awaited → ℕ → SemOper → Bool
is_awaited awaits.Rise num o = is_negative num o
is_awaited awaits.Zero num o = is_zero num o

-- what a waiting call has reserved of the sets: a semop, a row of semadj
abbrev pub HasRowFor : SetsWithRows → ℕ → Call → Type 0
HasRowFor sets process (SemOp id ops) = HasRow sets process id ops
HasRowFor sets process call = Unit {0}

-- the set of a semop is there, with the semaphores that it names
abbrev pub MayReserve : Sems → Call → Type 0
MayReserve sems (SemOp id ops) =
    IsSome (set_at sems id) × IfSome (set_at sems id) (λ set. are_in set.contents.semaphores ops ≡ true)
MayReserve sems call = Unit {0}

-- the client of each hasn't ended, and what it needs of the sets is reserved
unfoldable pub AreHeld : SetsWithRows → List Thread → List Waiting → Type 0
AreHeld sets threads ws = AllByRecursion (λ w. ((slice_index_or threads w.client no_thread).has_ended ≡ false)
    × HasRowFor sets (slice_index_or threads w.client no_thread).process w.call) ws

-- what a call of a client that hasn't ended leaves before it may wait, and the waiting calls that its grant ends
abbrev pub left_alive : State → ℕ → Call → Moved
left_alive s client call = cancelled_by (left_by s (decide_alive s client call)) call (decide_alive s client call)

-- what is decided on a call that a client makes that hasn't ended, and what that leaves, where it ends no other
abbrev pub decide_made : State → ℕ → Call → Decision State
decide_made s client call = unless_late (is_late s call) (decide_alive s client call)

abbrev pub left_made : State → ℕ → Call → State
left_made s client call = state_by s client call (decide_made s client call)

-- the queue that the call sends to
abbrev pub sent_to : Call → Option ℕ
sent_to (MsgSnd id mtype text flags) = Some id
sent_to call = None

abbrev pub is_at : ℕ → Option ℕ → Bool
is_at id None = false
is_at id (Some other) = id == other

-- the call sends to the queue of this identifier
abbrev pub is_send_to : ℕ → Call → Bool
is_send_to id call = is_at id (sent_to call)

-- how many of them send to the queue of this identifier
abbrev pub sends_on : ℕ → List Waiting → ℕ
sends_on id [] = 0
sends_on id (w ∷ ws) = one_if (is_send_to id w.call) + sends_on id ws

-- the rule by which a waiting call ends
abbrev pub cancelled_as : State → Cancelling → Waiting → Option Rule
cancelled_as s (cancellings.Denied kind id) w =
    if waits_on kind id w.call then first_denial (creds_at s w.client) (needs s w.client w.call) else None
cancelled_as s (cancellings.Removed kind id) w = if waits_on kind id w.call then Some Removed else None
cancelled_as s (cancellings.Interrupted pid) w = if pid == pid_at s w.client then Some Interrupted else None
cancelled_as s (cancellings.ThreadInterrupted client) w = if client == w.client then Some Interrupted else None
cancelled_as s (cancellings.Ended client) w = if process_at s client == process_at s w.client then Some Ended else None

-- the client is a thread of the process whose waiting calls end
abbrev pub is_named : State → Cancelling → ℕ → Bool
is_named s (cancellings.Interrupted pid) client = has_pid pid (thread_at s client)
is_named s (cancellings.Ended other) client = runs (process_at s other) (thread_at s client)
is_named s cancelling client = false

-- the client that stands for a process is one of its threads
abbrev pub lives_in : State → Cancelling → Bool
lives_in s (cancellings.Ended client) = not (has_exited s client)
lives_in s cancelling = true

-- the client of the earliest waiting call whose client passes
abbrev pub earliest_of : State → (ℕ → Bool) → Option ℕ
earliest_of s test = option_map (λ w. w.client) (find (λ w. test w.client) s.parked)

abbrev pub is_found : Option ℕ → ℕ → Bool
is_found None client = false
is_found (Some other) client = client == other

-- the call was granted
abbrev pub is_grant : Option Outcome → Bool
is_grant (Some (Ok answer)) = true
is_grant own = false

-- nothing, or the rule that denies
abbrev pub allowed_by : Verdict → Result ⊤ Rule
allowed_by (Allowed _) = Ok tt
allowed_by (Denied rule) = Err rule

-- what is left of a list of waiting calls, and those that end
abbrev pub kept_by : (Waiting → Option Rule) → List Waiting → List Waiting
kept_by rule ws = filter (λ w. is_none (rule w)) ws

abbrev pub ended_as : (Waiting → Option Rule) → List Waiting → List Completion
ended_as rule ws = flat_map (λ w. ended_by_rule w.client (rule w)) ws

-- in each queue a place is reserved for each waiting call that sends to it, and no other
abbrev pub IsReserved : Table (Object QueueWithRoom) → List Waiting → Type 0
IsReserved queues ws = (id : ℕ) → room queues id ≡ sends_on id ws

-- no waiting call is ready but those that were touched
abbrev pub AreQuietBut : (Waiting → Bool) → State → Type 0
AreQuietBut touched s = AllByRecursion (λ w. touched w ≡ false → is_ready s w ≡ false) s.parked

-- what is needed to signal a process of another pid, of its threads among the clients from this one on
abbrev pub signals_from : State → ℕ → ℕ → List Check
signals_from s pid n =
    map (λ c. Needs (SameUser c.euid)) (map (λ t. t.0) (filter (λ t. has_pid pid t.1) (zip (drop n s.clients) (drop n s.threads))))
