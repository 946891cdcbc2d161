-- What a server is: a namespace with its history, the connections and the clients by number, the segments whose memory was
-- made, and the bounds.
use Rattle.std.specs.Prelude.{ℕ, ◌+◌, ◌-◌, ◌==◌, ◌&&◌, Bool, true, false, not, List, [], ◌∷◌, length, map, filter, Option, None, Some, option_and_then, option_map, slice_index_or, slice_set, if◌then◌else◌}
use Rattle.std.specs.List.{find, list_any, range_with_len}
use Rattle.ipc_creds.specs.Credentials.{Credentials}
use Rattle.ipc_history.specs.History.{History, run}
use Rattle.ipc_model.specs.State.{State, creds_at, has_exited, is_waiting, pid_at}
use Rattle.ipc_server.specs.declared.outputs.Output.{Output}
use Rattle.ipc_server.specs.declared.peers.Bounds.{Bounds}
use Rattle.ipc_server.specs.declared.peers.Conn.{Conn}
use Rattle.ipc_server.specs.declared.peers.Conn.TheVariants.{Absent, Silent, Member}
use Rattle.ipc_server.specs.declared.peers.Peer.{Peer}
use Rattle.ipc_server.specs.declared.peers.Role.{Role}
use Rattle.ipc_server.specs.declared.peers.Role.TheVariants.{Free, Lead, Lent, Child}

pub record Server : Type 0 where
  pub history : History
  pub conns : List Conn
  pub roles : List Role
  pub memory : List ℕ
  pub bounds : Bounds

-- the state of the namespace
abbrev pub state : Server → State
state s = run s.history

abbrev pub conn_at : Server → ℕ → Conn
conn_at s conn = slice_index_or s.conns conn Absent

abbrev pub with_conn : Server → ℕ → Conn → Server
with_conn s conn c = record s { conns = slice_set s.conns conn c }

abbrev pub role_at : Server → ℕ → Role
role_at s client = slice_index_or s.roles client Free

abbrev pub with_role : Server → ℕ → Role → Server
with_role s client role = record s { roles = slice_set s.roles client role }

abbrev pub peer_in : Conn → Option Peer
peer_in Absent = None
peer_in (Silent peer) = Some peer
peer_in (Member peer client seq) = Some peer

abbrev pub is_silent : Conn → Bool
is_silent (Silent peer) = true
is_silent conn = false

abbrev pub is_member : Conn → Bool
is_member (Member peer client seq) = true
is_member conn = false

-- the connection's peer is such
abbrev pub is_of : (Peer → Bool) → Conn → Bool
is_of test Absent = false
is_of test (Silent peer) = test peer
is_of test (Member peer client seq) = test peer

abbrev pub has_user : ℕ → Peer → Bool
has_user euid peer = peer.creds.euid == euid

abbrev pub is_process : ℕ → Peer → Bool
is_process pid peer = peer.pid == pid

abbrev pub is_lead : Role → Bool
is_lead Lead = true
is_lead role = false

abbrev pub is_child : Role → Bool
is_child (Child token euid) = true
is_child role = false

abbrev pub has_token : ℕ → Role → Bool
has_token token (Child own euid) = own == token
has_token token role = false

abbrev pub announced_by : ℕ → Role → Bool
announced_by user (Child token euid) = euid == user
announced_by user role = false

-- the clients whose threads haven't ended, and those whose threads have, by number
abbrev pub lives : Server → ℕ → Bool
lives s client = not (has_exited (state s) client)

abbrev pub clients_of : Server → List ℕ
clients_of s = range_with_len 0 (length s.history.clients)

-- the clients from a number on
abbrev pub from_on : ℕ → Server → List ℕ
from_on from s = range_with_len from (length s.history.clients - from)

-- the first client from a number on whose thread has ended, that of all, and that behind another
abbrev pub free_from : ℕ → Server → Option ℕ
free_from from s = find (has_exited (state s)) (from_on from s)

abbrev pub free_client : Server → Option ℕ
free_client s = free_from 0 s

abbrev pub free_after : Option ℕ → Server → Option ℕ
free_after first s = option_and_then (λ client. free_from (client + 1) s) first

-- the client that makes the calls of the process of a pid as such
abbrev pub leads : Server → ℕ → ℕ → Bool
leads s pid client = lives s client && pid_at (state s) client == pid && is_lead (role_at s client)

abbrev pub lead_of : Server → ℕ → Option ℕ
lead_of s pid = find (leads s pid) (clients_of s)

-- the child that a fork announced with this token
abbrev pub is_named : Server → ℕ → ℕ → Bool
is_named s token client = lives s client && has_token token (role_at s client)

abbrev pub child_of : Server → ℕ → Option ℕ
child_of s token = find (is_named s token) (clients_of s)

-- how many there are: of connections that pass, of announced forks whose roles pass, and of clients of a user
abbrev pub count : {X : Type 0} → (X → Bool) → List X → ℕ
count test xs = length (filter test xs)

abbrev pub children : Server → (Role → Bool) → ℕ
children s test = count (λ client. lives s client && test (role_at s client)) (clients_of s)

abbrev pub of_user : Server → ℕ → ℕ
of_user s euid = count (λ client. lives s client && (creds_at (state s) client).euid == euid) (clients_of s)
