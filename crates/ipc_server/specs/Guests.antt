-- A connection that says its first message, with what is known of its peer.
use Rattle.std.specs.Prelude.{◌≡◌, ℕ, Option, Some, None}
use Rattle.ipc_creds.specs.Credentials.{Credentials}
use Rattle.ipc_server.specs.declared.messages.Standing.{Standing}
use Rattle.ipc_server.specs.declared.messages.Standing.TheVariants as standing
use Rattle.ipc_server.specs.declared.peers.Conn.{Conn}
use Rattle.ipc_server.specs.declared.peers.Conn.TheVariants.{Absent, Silent, Member}
use Rattle.ipc_server.specs.declared.peers.Peer.{Peer}
use Rattle.ipc_server.specs.declared.peers.Sender.{Sender}
use Rattle.ipc_model.specs.State.{nobody}
use Rattle.ipc_server.specs.Servers.{Server, conn_at}

-- stands for the peer of a connection that isn't there
abbrev pub no_peer : Peer
no_peer = record { pid = 0; creds = nobody }

abbrev pub peer_of : Conn → Peer
peer_of Absent = no_peer
peer_of (Silent peer) = peer
peer_of (Member peer client seq) = peer

abbrev pub peer_at : Server → ℕ → Peer
peer_at s conn = peer_of (conn_at s conn)

-- who may send on a connection of a peer
abbrev pub sender_of : Peer → Sender
sender_of peer = record { pid = peer.pid; ruid = peer.creds.ruid }

-- a connection without its peer
abbrev pub standing_of : Conn → Standing
standing_of Absent = standing.Absent
standing_of (Silent peer) = standing.Silent
standing_of (Member peer client seq) = standing.Member client seq
