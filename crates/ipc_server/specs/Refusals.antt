-- Messages by which their connection ends.
use Rattle.std.specs.Prelude.{ℕ, List, ◌∷◌, Option, None, Some, not, if◌then◌else◌}
use Rattle.ipc_server.specs.declared.outputs.Closing.{Closing}
use Rattle.ipc_server.specs.declared.outputs.Closing.TheVariants as why
use Rattle.ipc_server.specs.declared.outputs.Output.{Output}
use Rattle.ipc_server.specs.declared.outputs.Output.TheVariants.{Close}
use Rattle.ipc_server.specs.declared.peers.Peer.{Peer}
use Rattle.ipc_server.specs.declared.peers.Sender.{Sender}
use Rattle.ipc_server.specs.declared.peers.Supply.{Supply}
use Rattle.ipc_server.specs.declared.peers.Supply.TheVariants.{Enough, Short, Unread}
use Rattle.ipc_server.specs.Going.{Went}
use Rattle.ipc_server.specs.Steps.{is_sender}
use Rattle.ipc_wire.specs.declared.requests.Message.{Message}
use Rattle.ipc_wire.specs.Requests.{decode}

-- bytes that are no request, or can't be read
abbrev pub unread : Supply → Option Message → Option Closing
unread Unread m = Some why.Memory
unread Enough None = Some why.NoRequest
unread Short None = Some why.NoRequest
unread supply (Some m) = None

-- why a message isn't even a request of its connection's peer
abbrev pub refusal : Supply → Peer → Sender → List ℕ → Option Closing
refusal supply peer sender bytes = if not (is_sender peer sender) then Some why.AnotherSender else unread supply (decode bytes)

-- the connection is closed before all that
abbrev pub closed_first : ℕ → Closing → Went → Went
closed_first conn why w = record { server = w.server; outputs = Close conn why ∷ w.outputs }
