-- By which calls what a process has attached may go (shmop(2), execve(2), _exit(2)).
use Rattle.std.specs.Prelude.{ℕ, ◌==◌, ◌&&◌, Bool, false, not, List, Option, Some, None, slice_set}
use Rattle.std.specs.List.{find, list_any}
use Rattle.ipc_call.specs.declared.calls.Call.TheVariants.{Exec, Exit, Kill, ShmDt}
use Rattle.ipc_model.specs.State.{Call, Thread, has_pid, runs}
use Rattle.ipc_model.specs.Tidy.{thread_in}
use Rattle.life_laws.specs.Lives.{gone}

-- the thread is one of the process, if it is there
abbrev pub is_of : ℕ → Option Thread → Bool
is_of process None = false
is_of process (Some thread) = thread.process == process

-- by a call of a client what the process has attached under the number: by its own shmdt, by its exec, by the exit of
-- its last thread, and as it is killed
abbrev pub detaches : List Thread → ℕ → Call → ℕ → ℕ → Bool
detaches threads client (ShmDt att) process number =
    (thread_in threads client).process == process && att == number
detaches threads client Exec process number = (thread_in threads client).process == process
detaches threads client Exit process number =
    (thread_in threads client).process == process
    && not (list_any (runs process) (slice_set threads client (gone (thread_in threads client))))
detaches threads client (Kill pid) process number = is_of process (find (has_pid pid) threads)
detaches threads client call process number = false
