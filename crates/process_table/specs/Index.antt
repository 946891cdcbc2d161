-- The index of the clients' threads by pid.
use Rattle.std.specs.Prelude.{◌≡◌, ℕ, ◌<◌, ◌≤◌, ◌/◌, ◌%◌, ◌==◌, Bool, true, not, List, length, filter, Option, Some, None, if◌then◌else◌}
use Rattle.ipc_model.specs.State.{Thread, has_pid}
use Rattle.ipc_model.specs.Tidy.{IsLive, thread_in}
use Rattle.process_table.specs.Rows.{RowsState, holds, row_of}

abbrev pub is_live : Thread → Bool
is_live thread = not thread.has_ended

-- how many threads pass a test
abbrev pub count : (Thread → Bool) → List Thread → ℕ
count test threads = length (filter test threads)

-- a client's row under a pid is there where its thread is one of that pid, and hasn't ended
abbrev pub AreKept : List Thread → List ℕ → Type 0
AreKept threads rows = (pid client : ℕ) → client < 4294967296 → holds (row_of pid client) rows ≡ has_pid pid (thread_in threads client)

-- the rows are those of the threads that haven't ended, and there is room for the rows of all clients
pub record IsIndexed (threads : List Thread) (index : RowsState) : Type 0 where
  pub few : length threads ≤ 4096
  pub room : length threads ≤ index.capacity
  pub many : length index.rows ≡ count is_live threads
  pub kept : AreKept threads index.rows

-- the client of a row, where that is of the pid
abbrev pub client_under : ℕ → ℕ → Option ℕ
client_under pid row = if row / 4294967296 == pid then Some (row % 4294967296) else None

-- a thread that passes a test, changed
abbrev pub changed_if : (Thread → Bool) → (Thread → Thread) → Thread → Thread
changed_if test change thread = if test thread then change thread else thread

abbrev pub as_ended : Thread → Thread
as_ended thread = record thread { has_ended = true }

abbrev pub under_pid : ℕ → Thread → Thread
under_pid pid thread = record thread { pid = pid }

-- the threads of one process that haven't ended are of one pid
abbrev pub HaveOnePid : List Thread → Type 0
HaveOnePid threads = (client other : ℕ) → IsLive threads client → IsLive threads other
    → (thread_in threads client).process ≡ (thread_in threads other).process
    → (thread_in threads client).pid ≡ (thread_in threads other).pid
