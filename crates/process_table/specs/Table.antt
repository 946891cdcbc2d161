-- What each client is a thread of.
use Rattle.std.specs.Prelude.{ℕ, List}
pub use Rattle.ipc_call.specs.declared.threads.Thread.{Thread}

-- the clients' threads by client, and the serial number of the process that comes next
pub record Table : Type 0 where
  pub threads : List Thread
  pub next : ℕ
