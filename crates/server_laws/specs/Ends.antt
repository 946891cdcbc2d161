-- What is left of a process that has ended, and of its connections.
use Rattle.std.specs.Prelude.{◌≡◌, ◌≢◌, ℕ, ◌==◌, Bool, true, false}
use Rattle.ipc_model.specs.State.{has_exited, is_waiting, pid_at, process_at}
use Rattle.ipc_server.specs.declared.peers.Role.TheVariants.{Lead}
use Rattle.ipc_server.specs.Servers.{Server, conn_at, is_of, is_process, role_at, state}
use Rattle.ipc_server.specs.Steps.{Ended, Event}
use Rattle.life_laws.specs.Lives.{IsGone}

-- a client's thread has ended with its process: its call doesn't wait, and nothing is attached or owed by the process
pub record HasGone (before after : Server) (client : ℕ) : Type 0 where
  pub ended : has_exited (state after) client ≡ true
  pub waits : is_waiting (state after) client ≡ false
  pub process : IsGone (state after) (process_at (state before) client)

-- so has each that had the pid; none has it, and no connection is of its process
pub record IsOver (before after : Server) (pid : ℕ) : Type 0 where
  pub clients : (client : ℕ) → has_exited (state before) client ≡ false → pid_at (state before) client ≡ pid
      → HasGone before after client
  pub free : (client : ℕ) → has_exited (state after) client ≡ false → pid_at (state after) client ≢ pid
  pub conns : (conn : ℕ) → is_of (is_process pid) (conn_at after conn) ≡ false

-- the process of a pid is known: a client that lives makes its calls as such
pub record IsKnown (s : Server) (pid : ℕ) : Type 0 where
  pub lead : ℕ
  pub lives : has_exited (state s) lead ≡ false
  pub role : role_at s lead ≡ Lead
  pub pid_is : pid_at (state s) lead ≡ pid

-- the event is the end of the process
abbrev pub is_end_of : Event → ℕ → Bool
is_end_of (Ended own) pid = pid == own
is_end_of e pid = false
