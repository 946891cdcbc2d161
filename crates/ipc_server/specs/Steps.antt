-- The events of a server, and what each leads to.
use Rattle.std.specs.Prelude.{ℕ, ◌==◌, ◌&&◌, nat_le, Bool, true, false, List, [], ◌∷◌, Option, None, Some, if◌then◌else◌, unwrap_or, option_map}
use Rattle.ipc_call.specs.declared.calls.Call.TheVariants as calls
use Rattle.ipc_creds.specs.Credentials.{Credentials}
use Rattle.ipc_model.specs.State.{is_waiting}
use Rattle.ipc_namespace.specs.Looking.{soonest}
use Rattle.ipc_server.specs.declared.outputs.Closing.TheVariants as why
use Rattle.ipc_server.specs.declared.peers.Conn.{Conn}
use Rattle.ipc_server.specs.declared.peers.Conn.TheVariants.{Absent, Silent, Member}
use Rattle.ipc_server.specs.declared.peers.Peer.{Peer}
use Rattle.ipc_server.specs.declared.peers.Sender.{Sender}
use Rattle.ipc_server.specs.declared.peers.Supply.{Supply}
use Rattle.ipc_server.specs.declared.peers.Supply.TheVariants.{Enough, Short, Unread}
use Rattle.ipc_server.specs.Going.{Went, and_then, says, stays}
use Rattle.ipc_server.specs.Lives.{closes, connects, dies, ends, executes, forks, hello, hindered, interrupts, leaves, supervisor}
use Rattle.ipc_server.specs.Looks.{look_told}
use Rattle.ipc_server.specs.Making.{asks, makes, replies, sweeps}
use Rattle.ipc_server.specs.Servers.{Server, child_of, conn_at, lead_of, peer_in, state}
use Rattle.ipc_wire.specs.Calls.{call_of}
use Rattle.ipc_wire.specs.Requests.{decode}
use Rattle.ipc_wire.specs.declared.requests.Message.{Message}
use Rattle.ipc_wire.specs.declared.requests.Request.{Request}
use Rattle.ipc_wire.specs.declared.requests.Request.TheVariants.{Hello, Cancel, Fork, Calls, Looks}
use Rattle.ipc_wire.specs.declared.told.Hindrance.TheVariants as hindrance

-- what the loop tells: a connection with its peer's pid and credentials; a message with its sender, and a token for a fork,
-- which nobody can guess; the end of a connection; whether a process has memory of segments mapped; the end of a process; a
-- fork whose child doesn't come; that time passes
pub data Event : Type 0 where
  Connected : (conn : ℕ) (pid : ℕ) (creds : Credentials) → Event
  Sent : (conn : ℕ) (sender : Sender) (bytes : List ℕ) (token : ℕ) → Event
  Closed : (conn : ℕ) → Event
  Mapped : (pid : ℕ) (is_mapped : Bool) → Event
  Ended : (pid : ℕ) → Event
  ForkLost : (token : ℕ) → Event
  Tick : Event

abbrev pub is_sender : Peer → Sender → Bool
is_sender peer sender = sender.pid == peer.pid && sender.ruid == peer.creds.ruid

-- the first message of a connection
abbrev pub first : ℕ → ℕ → Peer → ℕ → Request → Server → Went
first now conn peer seq (Hello version token) s = hello now conn peer seq version token s
first now conn peer seq request s = closes now conn why.OutOfTurn s

-- a message while a request of the connection waits
abbrev pub meanwhile : ℕ → ℕ → ℕ → ℕ → Request → Server → Went
meanwhile now conn client seq (Cancel other) s = if other == seq then interrupts now client s else stays s
meanwhile now conn client seq request s = closes now conn why.TwoRequests s

-- a message while none waits
abbrev pub next : ℕ → ℕ → Peer → ℕ → ℕ → ℕ → Request → Server → Went
next now conn peer client token seq (Hello version other) s = closes now conn why.OutOfTurn s
next now conn peer client token seq (Cancel other) s = stays s
next now conn peer client token seq Fork s = forks now conn peer.pid peer.creds.euid seq token s
next now conn peer client token seq (Calls ask) s = asks now conn client seq (call_of ask) s
next now conn peer client token seq (Looks look) s = replies conn seq (look_told s peer look) s

abbrev pub takes : ℕ → ℕ → ℕ → Message → Conn → Server → Went
takes now conn token m Absent s = stays s
takes now conn token m (Silent peer) s = first now conn peer m.seq m.request s
takes now conn token m (Member peer client seq) s =
    if is_waiting (state s) client then meanwhile now conn client seq m.request s
    else next now conn peer client token m.seq m.request s

-- the request can't be served for want of memory, and nothing has changed; or it can't even be read
abbrev pub served : Supply → ℕ → ℕ → ℕ → Option Message → Server → Went
served Unread now conn token m s = closes now conn why.Memory s
served Enough now conn token None s = closes now conn why.NoRequest s
served Short now conn token None s = closes now conn why.NoRequest s
served Enough now conn token (Some m) s = takes now conn token m (conn_at s conn) s
served Short now conn token (Some m) s = hindered conn m.seq hindrance.Memory s

abbrev pub hears : Supply → ℕ → ℕ → Sender → List ℕ → ℕ → Option Peer → Server → Went
hears memory now conn sender bytes token None s = stays s
hears memory now conn sender bytes token (Some peer) s =
    if is_sender peer sender then served memory now conn token (decode bytes) s else closes now conn why.AnotherSender s

-- calls end whose deadline is reached
abbrev pub is_due : ℕ → Option ℕ → Bool
is_due now None = false
is_due now (Some deadline) = nat_le deadline now

abbrev pub ticks : ℕ → Server → Went
ticks now s = if is_due now (soonest (state s).parked) then makes now supervisor (calls.Interrupt 0) s else stays s

-- a process that has nothing mapped has become another program
abbrev pub finds : ℕ → ℕ → Bool → Server → Went
finds now pid is_mapped s = if is_mapped then stays s else executes now pid (lead_of s pid) s

abbrev pub serves : Supply → ℕ → Event → Server → Went
serves memory now (Connected conn pid creds) s = connects conn pid creds s
serves memory now (Sent conn sender bytes token) s = hears memory now conn sender bytes token (peer_in (conn_at s conn)) s
serves memory now (Closed conn) s = leaves now conn (conn_at s conn) s
serves memory now (Mapped pid is_mapped) s = finds now pid is_mapped s
serves memory now (Ended pid) s = ends now pid s
serves memory now (ForkLost token) s = dies now (child_of s token) s
serves memory now Tick s = ticks now s

-- what an event leads to; after each, the memory of segments goes that are no more
abbrev pub step : Supply → ℕ → Event → Server → Went
step memory now e s = and_then (serves memory now e s) sweeps
