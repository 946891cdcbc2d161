-- A server before its first event.
use Rattle.std.specs.Prelude.{ℕ, ◌-◌, List, [], ◌∷◌, ◌++◌, length, replicate}
use Rattle.ipc_call.specs.declared.calls.Call.TheVariants.{Name}
use Rattle.ipc_call.specs.declared.limits.Limits.{Limits}
use Rattle.ipc_creds.specs.Credentials.{Credentials}
use Rattle.ipc_history.specs.History.{History}
use Rattle.ipc_server.specs.declared.peers.Bounds.{Bounds}
use Rattle.ipc_server.specs.declared.peers.Conn.TheVariants.{Absent}
use Rattle.ipc_server.specs.declared.peers.Role.TheVariants.{Free}
use Rattle.ipc_server.specs.Servers.{Server}
use Rattle.ipc_space.specs.Openings.{exits}

-- all capabilities
abbrev pub supervisor_creds : Credentials
supervisor_creds = record { euid = 0; egid = 0; groups = []; caps = 31; ruid = 0; suid = 0; rgid = 0; sgid = 0 }

-- all clients but the server's own have exited, and that has a pid that no process has
abbrev pub opened_history : Limits → ℕ → History
opened_history limits clients = record {
  limits = limits;
  clients = replicate clients supervisor_creds;
  events = exits 1 (clients - 1) ++ record { client = 0; now = 0; call = Name 2147483648 } ∷ [];
}

-- a server of this history that no connection has come to
abbrev pub held_by : History → ℕ → Bounds → Server
held_by history conns bounds = record {
  history = history;
  conns = replicate conns Absent;
  roles = replicate (length history.clients) Free;
  memory = [];
  bounds = bounds;
}

abbrev pub opened : Limits → ℕ → ℕ → Bounds → Server
opened limits clients conns bounds = held_by (opened_history limits clients) conns bounds
