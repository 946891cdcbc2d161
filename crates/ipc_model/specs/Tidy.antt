-- What is true of the processes after each event: serial numbers come from below the next one, a pid is of one process at a
-- time, and what is filed under a process, semadj and attachments, is of one that has a thread. So nothing is filed under the
-- process that comes next (fork(2): a new process has no semadj; that it has the attachments of its parent is a copy).
use Rattle.std.specs.Prelude.{◌≡◌, ℕ, ◌<◌, ℤ, true, false, List, Some, is_some, slice_index_or}
use Rattle.std.specs.List.{AllByRecursion, list_any}
use Rattle.std.specs.FinMap as finite
use Rattle.sem_undo.specs.Entries.{Adjusted, Entries}
use Rattle.shm_seg.specs.declared.attachments.Attachment.{Attachment}
use Rattle.shm_seg.specs.Attachments.{attachment_at, shmseg}
use Rattle.ipc_model.specs.State.{Shared, State, Thread, no_thread, runs}
use Rattle.ipc_model.specs.Segments.{segment_at}

-- what a client is a thread of, in a list of threads
abbrev pub thread_in : List Thread → ℕ → Thread
thread_in threads client = slice_index_or threads client no_thread

-- the client is there, and its thread hasn't ended
abbrev pub IsLive : List Thread → ℕ → Type 0
IsLive threads client = (thread_in threads client).has_ended ≡ false

-- the process has a thread
abbrev pub Runs : List Thread → ℕ → Type 0
Runs threads process = list_any (runs process) threads ≡ true

-- the threads, those that have ended too, are of processes below the next one. A thread that hasn't ended has a pid, and
-- those of one pid are of one process
pub record AreNumbered (threads : List Thread) (next : ℕ) : Type 0 where
  pub below : AllByRecursion (λ thread. thread.process < next) threads
  pub shown : (client : ℕ) → IsLive threads client → 0 < (thread_in threads client).pid
  pub once : (client other : ℕ) → IsLive threads client → IsLive threads other
      → (thread_in threads client).pid ≡ (thread_in threads other).pid
      → (thread_in threads client).process ≡ (thread_in threads other).process

-- each semadj is of a process that runs
abbrev pub AreOwed : List Thread → Entries → Type 0
AreOwed threads undo = (key : Adjusted) (adj : ℤ) → finite.get undo key ≡ Some adj → Runs threads key.client

-- an attachment is of a process that runs, its number is one of SHMSEG, and its segment is there
pub record IsFiled (threads : List Thread) (shared : Shared) (process number : ℕ) (a : Attachment) : Type 0 where
  pub lives : Runs threads process
  pub few : number < shmseg
  pub there : is_some (segment_at shared a.segment) ≡ true

abbrev pub AreFiled : List Thread → Shared → Type 0
AreFiled threads shared = (process number : ℕ) (a : Attachment) → attachment_at shared.attached process number ≡ Some a
    → IsFiled threads shared process number a

pub record Tidy (threads : List Thread) (next : ℕ) (undo : Entries) (shared : Shared) : Type 0 where
  pub numbered : AreNumbered threads next
  pub owed : AreOwed threads undo
  pub filed : AreFiled threads shared

abbrev pub IsTidy : State → Type 0
IsTidy s = Tidy s.threads s.next s.sems.undo s.shared
