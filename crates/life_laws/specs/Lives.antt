-- What events make of the clients: their threads, with process and pid, and their credentials (fork(2), clone(2),
-- execve(2), _exit(2), kill(2); begin, name and assume are the project's own).
use Rattle.std.specs.Prelude.{◌≡◌, ◌≢◌, ℕ, ◌==◌, ◌&&◌, Bool, true, false, not, List, ◌++◌, filter, map, Option, Some, None, Ok, Err, if◌then◌else◌, slice_index_or, slice_set}
use Rattle.std.specs.List.{find}
use Rattle.std.specs.FinMap as finite
use Rattle.ipc_call.specs.declared.calls.Call.TheVariants.{SetCreds, Assume, Begin, Fork, Clone, Name, Exec, Kill, Exit}
use Rattle.ipc_creds.specs.Credentials.{Credentials, became, executed}
use Rattle.ipc_call.specs.declared.replies.Answer.TheVariants.{Done}
use Rattle.ipc_call.specs.declared.replies.Completion.{Completion}
use Rattle.ipc_call.specs.declared.replies.Waiting.{Waiting}
use Rattle.ipc_call.specs.declared.rules.Rule.TheVariants.{Interrupted, NoProcess}
use Rattle.shm_seg.specs.Attachments.{attachment_at}
use Rattle.ipc_model.specs.State.{Call, State, Thread, creds_at, has_exited, has_pid, is_running, is_waiting, nobody, pid_at, process_at, runs, thread_at}
use Rattle.ipc_model.specs.Decision.{Outcome}
use Rattle.ipc_model.specs.Processes.{credentials_of, ends, renamed}
use Rattle.ipc_model.specs.Step.{Event, at_time, begun, expire, moved_by, without}
use Rattle.ipc_model.specs.Tidy.{IsLive, thread_in}
use Rattle.ipc_history.specs.History.{History, next_step, run, with_event}

-- a call by which a thread or a process begins or ends, or takes other credentials or another pid
abbrev pub is_of_life : Call → Bool
is_of_life (SetCreds euid egid groups) = true
is_of_life (Assume creds) = true
is_of_life (Begin pid creds) = true
is_of_life (Fork child pid) = true
is_of_life (Clone child) = true
is_of_life (Name pid) = true
is_of_life Exec = true
is_of_life (Kill pid) = true
is_of_life Exit = true
is_of_life call = false

-- one by which a client begins, or a thread takes other credentials or its process another pid: no thread ends by it
abbrev pub is_quiet : Call → Bool
is_quiet (SetCreds euid egid groups) = true
is_quiet (Assume creds) = true
is_quiet (Begin pid creds) = true
is_quiet (Fork child pid) = true
is_quiet (Clone child) = true
is_quiet (Name pid) = true
is_quiet call = false

abbrev pub creds_in : List Credentials → ℕ → Credentials
creds_in clients client = slice_index_or clients client nobody

-- a thread as it is when it has ended
abbrev pub gone : Thread → Thread
gone thread = record thread { has_ended = true }

-- all threads end of the process of one, if it is there
abbrev pub without_process : Option Thread → List Thread → List Thread
without_process None threads = threads
without_process (Some thread) threads = map (ends thread.process) threads

-- the threads after a granted call of a client, where this is the serial number of the process that comes next
abbrev pub threads_after : ℕ → List Thread → ℕ → Call → List Thread
threads_after next threads client (Begin pid creds) =
    slice_set threads client (record { process = next; pid = pid; has_ended = false })
threads_after next threads client (Fork child pid) =
    slice_set threads child (record { process = next; pid = pid; has_ended = false })
threads_after next threads client (Clone child) =
    let own = thread_in threads client in
    slice_set threads child (record { process = own.process; pid = own.pid; has_ended = false })
threads_after next threads client (Name pid) = map (renamed (thread_in threads client).process pid) threads
threads_after next threads client Exec =
    slice_set (map (ends (thread_in threads client).process) threads) client (thread_in threads client)
threads_after next threads client (Kill pid) = without_process (find (has_pid pid) threads) threads
threads_after next threads client Exit = slice_set threads client (gone (thread_in threads client))
threads_after next threads client call = threads

-- and the clients' credentials
abbrev pub clients_after : List Credentials → ℕ → Call → List Credentials
clients_after clients client (SetCreds euid egid groups) =
    slice_set clients client (became euid egid groups (creds_in clients client))
clients_after clients client (Assume creds) = slice_set clients client (credentials_of creds)
clients_after clients client (Begin pid creds) = slice_set clients client (credentials_of creds)
clients_after clients client (Fork child pid) = slice_set clients child (creds_in clients client)
clients_after clients client (Clone child) = slice_set clients child (creds_in clients client)
clients_after clients client Exec = slice_set clients client (executed (creds_in clients client))
clients_after clients client call = clients

abbrev pub is_granted : Option Outcome → Bool
is_granted (Some (Ok answer)) = true
is_granted (Some (Err rule)) = false
is_granted None = false

-- both after an event whose call came to this: a call that isn't granted changes neither
abbrev pub threads_by : State → Event → Option Outcome → List Thread
threads_by s e own = if is_granted own then threads_after s.next s.threads e.client e.call else s.threads

abbrev pub clients_by : State → Event → Option Outcome → List Credentials
clients_by s e own = if is_granted own then clients_after s.clients e.client e.call else s.clients

-- by a call of a client another one, or it itself, becomes a thread of another process
abbrev pub is_begun_by : ℕ → Call → ℕ → Bool
is_begun_by client (Begin pid creds) who = client == who
is_begun_by client (Fork child pid) who = child == who
is_begun_by client (Clone child) who = child == who
is_begun_by client call who = false

-- it takes other credentials
abbrev pub takes_creds : ℕ → Call → ℕ → Bool
takes_creds client (SetCreds euid egid groups) who = client == who
takes_creds client (Assume creds) who = client == who
takes_creds client Exec who = client == who
takes_creds client call who = is_begun_by client call who

-- another pid: of a name, each thread of the caller's process that hasn't ended
abbrev pub takes_pid : State → ℕ → Call → ℕ → Bool
takes_pid s client (Name pid) who = runs (process_at s client) (thread_at s who)
takes_pid s client call who = is_begun_by client call who

-- its thread ends: by its own exit, by an exec of another thread of its process, or as its process is killed
abbrev pub is_ended_by : State → ℕ → Call → ℕ → Bool
is_ended_by s client Exit who = client == who
is_ended_by s client Exec who = runs (process_at s client) (thread_at s who) && not (client == who)
is_ended_by s client (Kill pid) who = has_pid pid (thread_at s who)
is_ended_by s client call who = false

-- a call of a client at a time in seconds
abbrev pub event : ℕ → ℕ → Call → Event
event now client call = record { client = client; now = now; call = call }

-- the client is what it was
pub record IsAsItWas (s new : State) (client : ℕ) : Type 0 where
  pub thread : thread_at new client ≡ thread_at s client
  pub creds : creds_at new client ≡ creds_at s client

-- its thread lives, and is one of this process, with this pid and these credentials
pub record IsThread (s : State) (client own shown : ℕ) (c : Credentials) : Type 0 where
  pub lives : has_exited s client ≡ false
  pub process : process_at s client ≡ own
  pub pid : pid_at s client ≡ shown
  pub creds : creds_at s client ≡ c

-- no client has changed but this one
abbrev pub OthersStay : State → State → ℕ → Type 0
OthersStay s new client = (other : ℕ) → other ≢ client → IsAsItWas s new other

-- no thread that lives has the pid, or none but those of this process
abbrev pub IsFree : State → ℕ → Type 0
IsFree s pid = (client : ℕ) → has_exited s client ≡ false → pid_at s client ≢ pid

abbrev pub IsFreeBut : State → ℕ → ℕ → Type 0
IsFreeBut s process pid = (client : ℕ) → has_exited s client ≡ false → pid_at s client ≡ pid
    → process_at s client ≡ process

-- the threads of a process that live have one pid
abbrev pub HaveOnePid : List Thread → Type 0
HaveOnePid threads = (client other : ℕ) → IsLive threads client → IsLive threads other
    → (thread_in threads client).process ≡ (thread_in threads other).process
    → (thread_in threads client).pid ≡ (thread_in threads other).pid

-- by the event that comes after a history a client's call is granted, and leaves that client, or another, such a
-- thread, and no other client has changed
pub record Begins (h : History) (e : Event) (client own shown : ℕ) (c : Credentials) : Type 0 where
  pub granted : (next_step h e).own ≡ Some (Ok Done)
  pub thread : IsThread (run (with_event h e)) client own shown c
  pub others : OthersStay (run h) (run (with_event h e)) client

-- its thread has ended and keeps its pid and its credentials, and no call of it waits
pub record HasEnded (s new : State) (client : ℕ) : Type 0 where
  pub thread : thread_at new client ≡ gone (thread_at s client)
  pub creds : creds_at new client ≡ creds_at s client
  pub waits : is_waiting new client ≡ false

-- its thread ends
pub record Exits (h : History) (e : Event) (client : ℕ) : Type 0 where
  pub granted : (next_step h e).own ≡ Some (Ok Done)
  pub ended : HasEnded (run h) (run (with_event h e)) client
  pub others : OthersStay (run h) (run (with_event h e)) client

-- the threads of the process that live have another pid
pub record Renames (h : History) (e : Event) (own pid : ℕ) : Type 0 where
  pub granted : (next_step h e).own ≡ Some (Ok Done)
  pub threads : (client : ℕ) → runs own (thread_at (run h) client) ≡ true
      → IsThread (run (with_event h e)) client own pid (creds_at (run h) client)
  pub others : (client : ℕ) → runs own (thread_at (run h) client) ≡ false
      → IsAsItWas (run h) (run (with_event h e)) client

-- the event leads to what its call leaves, and no calls end by it but those whose deadline is reached and those that its
-- grant cancels: none proceeds
pub record LetsNoneProceed (h : History) (e : Event) : Type 0 where
  pub state : run (with_event h e) ≡ (moved_by (begun (run h) e.now) e.client e.call).state
  pub told : (next_step h e).ended ≡ (expire (at_time (run h) e.now)).ended
      ++ (moved_by (begun (run h) e.now) e.client e.call).ended

-- the event leads to this, and no calls end by it but those whose deadline is reached
pub record LeadsTo (h : History) (e : Event) (new : State) : Type 0 where
  pub state : run (with_event h e) ≡ new
  pub told : (next_step h e).ended ≡ (expire (at_time (run h) e.now)).ended

-- its thread becomes another program: the other threads of its process end, and all attachments of the process go. No
-- set has changed, and no semadj
pub record Executes (h : History) (e : Event) (client : ℕ) : Type 0 where
  pub granted : (next_step h e).own ≡ Some (Ok Done)
  pub thread : thread_at (run (with_event h e)) client ≡ thread_at (run h) client
  pub creds : creds_at (run (with_event h e)) client ≡ executed (creds_at (run h) client)
  pub ended : (other : ℕ) → other ≢ client → runs (process_at (run h) client) (thread_at (run h) other) ≡ true
      → HasEnded (run h) (run (with_event h e)) other
  pub others : (other : ℕ) → runs (process_at (run h) client) (thread_at (run h) other) ≡ false
      → IsAsItWas (run h) (run (with_event h e)) other
  pub attached : (number : ℕ)
      → attachment_at (run (with_event h e)).shared.attached (process_at (run h) client) number ≡ None
  pub sems : (run (with_event h e)).sems ≡ (run h).sems

-- nothing is left of a process: no thread of it lives, nothing is attached and no semadj is filed under it
pub record IsGone (s : State) (process : ℕ) : Type 0 where
  pub ended : is_running s process ≡ false
  pub attached : (number : ℕ) → attachment_at s.shared.attached process number ≡ None
  pub semadj : (set num : ℕ) → finite.get s.sems.undo (record { client = process; set = set; num = num }) ≡ None

-- a thread has ended with its process
pub record IsKilled (s new : State) (client : ℕ) : Type 0 where
  pub ended : HasEnded s new client
  pub process : IsGone new (process_at s client)

-- the process of a pid ends with all its threads, and no other client has changed
pub record Kills (h : History) (e : Event) (pid : ℕ) : Type 0 where
  pub granted : (next_step h e).own ≡ Some (Ok Done)
  pub killed : (client : ℕ) → has_pid pid (thread_at (run h) client) ≡ true
      → IsKilled (run h) (run (with_event h e)) client
  pub others : (client : ℕ) → has_pid pid (thread_at (run h) client) ≡ false
      → IsAsItWas (run h) (run (with_event h e)) client
  pub free : IsFree (run (with_event h e)) pid

-- a waiting call ends with EINTR
abbrev pub interrupted : Waiting → Completion
interrupted w = record { client = w.client; outcome = Err Interrupted }

-- what a client waits for ends, and nothing else but calls whose deadline is reached
pub record Interrupts (h : History) (e : Event) (client : ℕ) : Type 0 where
  pub granted : (next_step h e).own ≡ Some (Ok Done)
  pub waits : is_waiting (run (with_event h e)) client ≡ false
  pub state : run (with_event h e) ≡ without (begun (run h) e.now) client
  pub told : (next_step h e).ended ≡ (expire (at_time (run h) e.now)).ended
      ++ map interrupted (filter (λ w. w.client == client) (begun (run h) e.now).parked)

-- the clock moves on and calls end whose deadline is reached, and nothing else
pub record Ticks (h : History) (e : Event) : Type 0 where
  pub refused : (next_step h e).own ≡ Some (Err NoProcess)
  pub leads : LeadsTo h e (begun (run h) e.now)
