-- What a call leaves that ends threads: which threads go on or end, what is undone, and what is detached. Of the state
-- before it.
use Rattle.std.specs.Prelude.{ℕ, ◌+◌, ◌==◌, ◌&&◌, not, ℤ, pos, ◌+ℤ◌, Bool, List, [], ◌∷◌, ◌++◌, count_by, filter, filter_map, flat_map, length, nat_lt, Option, Some, None, option_and_then, option_map, if◌then◌else◌}
use Rattle.std.specs.List.{find, range_with_len}
use Rattle.std.specs.Ordering.{int_eq}
use Rattle.ipc_call.specs.declared.calls.Call.{Call}
use Rattle.ipc_call.specs.declared.calls.Call.TheVariants as calls
use Rattle.ipc_call.specs.declared.listings.Row.{Row}
use Rattle.ipc_call.specs.declared.listings.Row.TheVariants as rows
use Rattle.sem_set.specs.Exits.{brought}
use Rattle.sem_undo.specs.Entries.{adj_of}
use Rattle.shm_seg.specs.Attachments.{attachment_at, shmseg}
use Rattle.ipc_model.specs.Listings.{lines_of}
use Rattle.ipc_model.specs.State.{State, has_exited, has_pid, pid_at, process_at, runs, thread_at}
use Rattle.thread_ends.specs.declared.ends.Detached.{Detached}
use Rattle.thread_ends.specs.declared.ends.Ending.{Ending}
use Rattle.thread_ends.specs.declared.ends.Ending.TheVariants.{Thread, Last, Killed, Executed}
use Rattle.thread_ends.specs.declared.ends.Left.{Left}
use Rattle.thread_ends.specs.declared.ends.Undone.{Undone}

-- what is told, without where it lies in memory
pub record Leaving : Type 0 where
  pub ending : Ending
  pub pid : ℕ
  pub threads : List ℕ
  pub undone : List Undone
  pub detached : List Detached

abbrev pub seen : Left → Leaving
seen left = record {
  ending = left.ending;
  pid = left.pid;
  threads = left.threads.items;
  undone = left.undone.items;
  detached = left.detached.items;
}

-- the clients that are threads of a process, and haven't ended
abbrev pub threads_in : State → ℕ → List ℕ
threads_in s process = filter (λ client. runs process (thread_at s client)) (range_with_len 0 (length s.clients))

-- those of a client's process beside it
abbrev pub others_in : State → ℕ → List ℕ
others_in s client = filter (λ other. not (other == client)) (threads_in s (process_at s client))

-- the first of the process of a pid
abbrev pub first_of : State → ℕ → Option ℕ
first_of s pid = find (λ client. has_pid pid (thread_at s client)) (range_with_len 0 (length s.clients))

-- a semadj is added to a value, and the sum is brought into 0 to SEMVMX, as exit does it
abbrev pub undone_by : ℕ → ℕ → ℤ → ℕ → Undone
undone_by set num adj value =
    record { set = set; num = num; adj = adj; before = value; after = brought (pos value +ℤ adj) }

-- the semadj of a process at a semaphore; an operation names one by a number of 16 bits
abbrev pub semadj_in : State → ℕ → ℕ → ℕ → ℤ
semadj_in s process set num = if nat_lt num 65536 then adj_of s.sems.undo process set num else pos 0

-- a semaphore, where there is a semadj
abbrev pub undone_one : ℕ → ℕ → ℤ → ℕ → List Undone
undone_one set num adj value = if int_eq adj (pos 0) then [] else undone_by set num adj value ∷ []

-- the semaphores of a set with these values, from this number on
unfoldable pub undone_from : (ℕ → ℤ) → ℕ → ℕ → List ℕ → List Undone
undone_from adj set num [] = []
undone_from adj set num (value ∷ values) = undone_one set num (adj num) value ++ undone_from adj set (num + 1) values

abbrev pub undone_row : State → ℕ → Row → List ℕ → List Undone
undone_row s process (rows.Queue object cbytes qnum) values = []
undone_row s process (rows.Set object nsems) values = undone_from (semadj_in s process object.id) object.id 0 values
undone_row s process (rows.Segment object is_marked size nattch) values = []

-- of each set
abbrev pub undone_in : State → ℕ → List Undone
undone_in s process = flat_map (λ line. undone_row s process line.0 line.1) (lines_of s)

abbrev pub segment_in : State → ℕ → ℕ → Option ℕ
segment_in s process number = option_map (λ a. a.segment) (attachment_at s.shared.attached process number)

-- the segment of each attachment of a process, by its number
abbrev pub attached_in : State → ℕ → List ℕ
attached_in s process = filter_map (λ number. segment_in s process number) (range_with_len 0 shmseg)

-- how often a number is one of these
abbrev pub times : ℕ → List ℕ → ℕ
times n ns = count_by (λ m. m == n) ns

-- a segment to which so many attachments are that go, and so many of all: marked, it goes with its last one
abbrev pub detached_part : ℕ → ℕ → Bool → ℕ → Option Detached
detached_part id count is_marked nattch =
    if count == 0 then None else Some (record { segment = id; count = count; goes = is_marked && nattch == count })

abbrev pub detached_row : List ℕ → Row → Option Detached
detached_row segments (rows.Queue object cbytes qnum) = None
detached_row segments (rows.Set object nsems) = None
detached_row segments (rows.Segment object is_marked size nattch) =
    detached_part object.id (times object.id segments) is_marked nattch

-- of each segment that a process has attached
abbrev pub detached_in : State → ℕ → List Detached
detached_in s process = filter_map (λ line. detached_row (attached_in s process) line.0) (lines_of s)

-- nothing is left by a client whose thread has ended
abbrev pub living_in : State → ℕ → Ending → List ℕ → List Undone → List Detached → Option Leaving
living_in s client ending threads undone detached =
    if has_exited s client
    then None
    else Some (record {
      ending = ending;
      pid = pid_at s client;
      threads = threads;
      undone = undone;
      detached = detached;
    })

-- the end of a client's process
abbrev pub by_end : State → ℕ → Ending → List ℕ → Option Leaving
by_end s client ending threads =
    living_in s client ending threads (undone_in s (process_at s client)) (detached_in s (process_at s client))

-- exit: the thread ends, and where it is the last one its process
abbrev pub by_exit : State → ℕ → List ℕ → Option Leaving
by_exit s client [] = by_end s client Last []
by_exit s client (other ∷ others) = living_in s client Thread (other ∷ others) [] []

-- exec: the other threads end, and all attachments of the process go; its semadj stay
abbrev pub by_exec : State → ℕ → Option Leaving
by_exec s client =
    living_in s client Executed (others_in s client) [] (detached_in s (process_at s client))

-- kill: all threads of the process of this client end, and so the process
abbrev pub by_kill : State → ℕ → Option Leaving
by_kill s client = by_end s client Killed (threads_in s (process_at s client))

-- what the call of a client leaves, where it is granted; None of a call that ends no thread
abbrev pub left_in : State → ℕ → Call → Option Leaving
left_in s client calls.Exit = by_exit s client (others_in s client)
left_in s client calls.Exec = by_exec s client
left_in s client (calls.Kill pid) = option_and_then (by_kill s) (first_of s pid)
left_in s client call = None
