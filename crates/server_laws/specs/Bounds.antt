-- The bounds of what is counted.
use Rattle.std.specs.Prelude.{ℕ, ◌≤◌, ◌&&◌, List}
use Rattle.ipc_server.specs.declared.peers.Bounds.{Bounds}
use Rattle.ipc_server.specs.declared.peers.Conn.{Conn}
use Rattle.ipc_server.specs.Servers.{Server, announced_by, children, count, has_user, is_child, is_of, is_silent}

-- connections: those that have said nothing, those of each user, and those of each user that have said nothing
pub record AreFew (bounds : Bounds) (conns : List Conn) : Type 0 where
  pub silent : count is_silent conns ≤ bounds.silent
  pub of_user : (euid : ℕ) → count (is_of (has_user euid)) conns ≤ bounds.conns_of_user
  pub silent_of_user : (euid : ℕ) → count (λ conn. is_silent conn && is_of (has_user euid) conn) conns ≤ bounds.silent_of_user

-- forks that were announced: in all, and by each user
pub record AreFewForks (bounds : Bounds) (s : Server) : Type 0 where
  pub all : children s is_child ≤ bounds.forks
  pub by_user : (euid : ℕ) → children s (announced_by euid) ≤ bounds.forks_of_user
