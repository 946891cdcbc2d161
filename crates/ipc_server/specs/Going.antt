-- What an event leads to: the server that it leaves and what it gives, in order.
use Rattle.std.specs.Prelude.{ℕ, List, [], ◌∷◌, ◌++◌}
use Rattle.ipc_server.specs.declared.outputs.Output.{Output}
use Rattle.ipc_server.specs.Servers.{Server}

pub record Went : Type 0 where
  pub server : Server
  pub outputs : List Output

abbrev pub stays : Server → Went
stays s = record { server = s; outputs = [] }

abbrev pub says : Output → Server → Went
says output s = record { server = s; outputs = output ∷ [] }

-- one after the other
abbrev pub and_then : Went → (Server → Went) → Went
and_then w go = record { server = (go w.server).server; outputs = w.outputs ++ (go w.server).outputs }
