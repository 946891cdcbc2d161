-- What a list of events leads to, and what it gives, asks and answers on one connection.
use Rattle.std.specs.Prelude.{◌≡◌, ℕ, true, false, List, [], ◌∷◌, ◌++◌}
use Rattle.ipc_server.specs.declared.outputs.Output.{Output}
use Rattle.ipc_server.specs.declared.peers.Supply.{Supply}
use Rattle.ipc_server.specs.Going.{Went}
use Rattle.ipc_server.specs.Servers.{Server}
use Rattle.ipc_server.specs.Steps.{Event, step}
use Rattle.server_laws.specs.Telling.{asked_on, is_open, is_short}

-- an event, when it comes, and what memory there is for it
pub record Input : Type 0 where
  pub supply : Supply
  pub now : ℕ
  pub event : Event

abbrev pub takes : Input → Server → Went
takes i s = step i.supply i.now i.event s

abbrev pub after : List Input → Server → Server
after [] s = s
after (i ∷ is) s = after is (takes i s).server

abbrev pub outputs_of : List Input → Server → List Output
outputs_of [] s = []
outputs_of (i ∷ is) s = (takes i s).outputs ++ outputs_of is (takes i s).server

-- the numbers of the requests that come on a connection
abbrev pub all_asked_on : List Input → Server → ℕ → List ℕ
all_asked_on [] s conn = []
all_asked_on (i ∷ is) s conn = asked_on s i.event conn ++ all_asked_on is (takes i s).server conn

-- there is memory for each event, and the connection is there after each
abbrev pub StaysOpen : List Input → Server → ℕ → Type 0
StaysOpen [] s conn = Unit {0}
StaysOpen (i ∷ is) s conn =
    (is_short i.supply ≡ false) × (is_open (takes i s).server conn ≡ true) × StaysOpen is (takes i s).server conn
