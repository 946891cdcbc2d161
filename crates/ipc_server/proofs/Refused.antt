-- What closes a connection at once, and what changes nothing.
use Rattle.std.proofs.Common.{◌≡◌, ℕ, Bool, true, false, cond, List, Option, Some, None, refl, ap, ◌∙◌}
use Rattle.std.specs.Prelude.{not, unwrap_or, if◌then◌else◌}
use Rattle.std.proofs.lemmas.Option.{none-some}
use Rattle.ipc_server.specs.declared.outputs.Closing.{Closing}
use Rattle.ipc_server.specs.declared.outputs.Closing.TheVariants.{AnotherSender}
use Rattle.ipc_server.specs.declared.peers.Peer.{Peer}
use Rattle.ipc_server.specs.declared.peers.Sender.{Sender}
use Rattle.ipc_server.specs.declared.peers.Supply.{Supply}
use Rattle.ipc_server.specs.declared.peers.Supply.TheVariants.{Enough, Short, Unread}
use Rattle.ipc_server.specs.Going.{Went, and_then}
use Rattle.ipc_server.specs.Lives.{closes, hindered}
use Rattle.ipc_server.specs.Making.{sweeps}
use Rattle.ipc_server.specs.Refusals.{closed_first, refusal, unread}
use Rattle.ipc_server.specs.Servers.{Server, conn_at, peer_in}
use Rattle.ipc_server.specs.Steps.{Closed, Sent, hears, is_sender, served, step}
use Rattle.ipc_wire.specs.declared.requests.Message.{Message}
use Rattle.ipc_wire.specs.declared.told.Hindrance.TheVariants.{Memory}
use Rattle.ipc_wire.specs.Requests.{decode}

module _ (s : Server) (now conn token : ℕ) where
  refused_by : (b : Bool) (supply : Supply) (m : Option Message) (why : Closing) → (if not b then Some AnotherSender else unread supply m) ≡ Some why
      → (if b then served supply now conn token m s else closes now conn AnotherSender s) ≡ closes now conn why s
  refused_by true Unread m why is = ap (λ (o : Option Closing). closes now conn (unwrap_or o AnotherSender) s) is
  refused_by true Enough None why is = ap (λ (o : Option Closing). closes now conn (unwrap_or o AnotherSender) s) is
  refused_by true Short None why is = ap (λ (o : Option Closing). closes now conn (unwrap_or o AnotherSender) s) is
  refused_by true Enough (Some m) why is = absurd (none-some why is)
  refused_by true Short (Some m) why is = absurd (none-some why is)
  refused_by false supply m why is = ap (λ (o : Option Closing). closes now conn (unwrap_or o AnotherSender) s) is

  pub ends_connection : (supply : Supply) (peer : Peer) (sender : Sender) (bytes : List ℕ) (why : Closing)
      → peer_in (conn_at s conn) ≡ Some peer → refusal supply peer sender bytes ≡ Some why
      → step supply now (Sent conn sender bytes token) s ≡ closed_first conn why (step Enough now (Closed conn) s)
  ends_connection supply peer sender bytes why there refused =
      ap (λ (o : Option Peer). and_then (hears supply now conn sender bytes token o s) sweeps) there
      ∙ ap (λ (w : Went). and_then w sweeps) (refused_by (is_sender peer sender) supply (decode bytes) why refused)

  pub short_of_memory : (peer : Peer) (sender : Sender) (bytes : List ℕ) (m : Message)
      → peer_in (conn_at s conn) ≡ Some peer → is_sender peer sender ≡ true → decode bytes ≡ Some m
      → step Short now (Sent conn sender bytes token) s ≡ and_then (hindered conn m.seq Memory s) sweeps
  short_of_memory peer sender bytes m there sends read =
      ap (λ (o : Option Peer). and_then (hears Short now conn sender bytes token o s) sweeps) there
      ∙ ap (λ (b : Bool). and_then (if b then served Short now conn token (decode bytes) s else closes now conn AnotherSender s) sweeps) sends
      ∙ ap (λ (o : Option Message). and_then (served Short now conn token o s) sweeps) read
