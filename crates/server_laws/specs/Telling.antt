-- Who is answered: the requests of a connection, those that wait, and the replies to it.
use Rattle.std.specs.Prelude.{◌≡◌, ℕ, ◌<◌, ◌==◌, Bool, true, false, List, [], ◌∷◌, ◌++◌, length, Option, None, Some, is_some, if◌then◌else◌}
use Rattle.ipc_history.specs.History.{IsLegal}
use Rattle.ipc_model.specs.State.{State, creds_at, has_exited, is_waiting, pid_at}
use Rattle.ipc_server.specs.declared.outputs.Output.{Output}
use Rattle.ipc_server.specs.declared.outputs.Output.TheVariants.{Reply}
use Rattle.ipc_server.specs.declared.peers.Conn.{Conn}
use Rattle.ipc_server.specs.declared.peers.Conn.TheVariants.{Member}
use Rattle.ipc_server.specs.declared.peers.Peer.{Peer}
use Rattle.ipc_server.specs.declared.peers.Role.TheVariants.{Lent}
use Rattle.ipc_server.specs.declared.peers.Sender.{Sender}
use Rattle.ipc_server.specs.declared.peers.Supply.{Supply}
use Rattle.ipc_server.specs.declared.peers.Supply.TheVariants.{Short}
use Rattle.ipc_server.specs.Servers.{Server, conn_at, peer_in, role_at, state}
use Rattle.ipc_server.specs.Steps.{Event, Sent, is_sender}
use Rattle.ipc_wire.specs.Requests.{decode}
use Rattle.ipc_wire.specs.declared.requests.Message.{Message}
use Rattle.ipc_wire.specs.declared.requests.Request.{Request}
use Rattle.ipc_wire.specs.declared.requests.Request.TheVariants.{Cancel}

-- the numbers of the requests that are answered on a connection
abbrev pub seq_in : ℕ → Output → List ℕ
seq_in conn (Reply to seq what with_it) = if to == conn then seq ∷ [] else []
seq_in conn output = []

abbrev pub answered_on : ℕ → List Output → List ℕ
answered_on conn [] = []
answered_on conn (output ∷ list) = seq_in conn output ++ answered_on conn list

-- that of the request of a connection that waits
abbrev pub waiting_in : State → Conn → List ℕ
waiting_in s (Member peer client seq) = if is_waiting s client then seq ∷ [] else []
waiting_in s conn = []

abbrev pub waiting_on : Server → ℕ → List ℕ
waiting_on s conn = waiting_in (state s) (conn_at s conn)

-- that of the request that comes on it. A CANCEL has no reply of its own
abbrev pub wants_reply : Request → Bool
wants_reply (Cancel seq) = false
wants_reply request = true

abbrev pub seq_of : Option Message → List ℕ
seq_of None = []
seq_of (Some m) = if wants_reply m.request then m.seq ∷ [] else []

abbrev pub asked_by : Option Peer → Sender → List ℕ → List ℕ
asked_by None sender bytes = []
asked_by (Some peer) sender bytes = if is_sender peer sender then seq_of (decode bytes) else []

abbrev pub asked_on : Server → Event → ℕ → List ℕ
asked_on s (Sent to sender bytes token) conn = if to == conn then asked_by (peer_in (conn_at s conn)) sender bytes else []
asked_on s e conn = []

-- the connection is there
abbrev pub is_open : Server → ℕ → Bool
is_open s conn = is_some (peer_in (conn_at s conn))

abbrev pub is_short : Supply → Bool
is_short Short = true
is_short supply = false

-- a client that is lent to a connection
pub record IsLentTo (s : Server) (conn client : ℕ) : Type 0 where
  pub known : client < length s.history.clients
  pub lives : has_exited (state s) client ≡ false
  pub role : role_at s client ≡ Lent conn

-- the history is legal; each connection that has a client has it for itself, and that lives; and who waits and is lent to a
-- connection is its client
pub record AreLent (s : Server) : Type 0 where
  pub legal : IsLegal s.history
  pub lent : (conn : ℕ) (peer : Peer) (client seq : ℕ) → conn_at s conn ≡ Member peer client seq → IsLentTo s conn client
  pub alone : (conn client : ℕ) → is_waiting (state s) client ≡ true → role_at s client ≡ Lent conn
      → (peer : Peer) × (seq : ℕ) × (conn_at s conn ≡ Member peer client seq)

-- a client is a thread of the process of a connection's peer, with the credentials that the peer had when it came
pub record ActsAs (s : Server) (peer : Peer) (client : ℕ) : Type 0 where
  pub pid : pid_at (state s) client ≡ peer.pid
  pub creds : creds_at (state s) client ≡ peer.creds
