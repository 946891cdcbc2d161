-- What is held between events beside the server: how many rows of the journal were handed out and for how many there is room,
-- and what is to be done that nobody has taken.
use Rattle.std.specs.Prelude.{◌≡◌, ℕ, ◌+◌, ◌^◌, ◌<◌, ◌≤◌, ◌==◌, ◌&&◌, nat_le, nat_lt, Bool, List, [], ◌++◌, length}
use Rattle.ipc_call.specs.declared.replies.Reply.{Reply}
use Rattle.ipc_history.specs.History.{History, IsLegal}
use Rattle.ipc_server.specs.declared.outputs.Output.{Output}
use Rattle.ipc_server.specs.declared.peers.Conn.{Conn}
use Rattle.ipc_server.specs.declared.peers.Role.{Role}
use Rattle.ipc_server.specs.Going.{Went}
use Rattle.ipc_server.specs.Servers.{Server}

-- what is to be done, in order, and for how much more there is room
pub record Outputs : Type 0 where
  pub list : List Output
  pub room : ℕ

pub record Held : Type 0 where
  pub server : Server
  pub given : ℕ
  pub room : ℕ
  pub outputs : Outputs

-- it went so: the server is what that leads to, and what it gives comes behind the rest
pub record Goes (old new : Held) (go : Server → Went) : Type 0 where
  pub server : new.server ≡ (go old.server).server
  pub outputs : new.outputs.list ≡ old.outputs.list ++ (go old.server).outputs
  pub given : new.given ≡ old.given

-- nothing has changed, but that there may be more room
pub record Stays (old new : Held) : Type 0 where
  pub server : new.server ≡ old.server
  pub outputs : new.outputs ≡ old.outputs
  pub given : new.given ≡ old.given
  pub room : old.room ≤ new.room

-- so many rows and outputs it took at most; each event has a row
pub record Costs (old new : Held) (most_rows most_outputs : ℕ) : Type 0 where
  pub events : length new.server.history.events ≤ length old.server.history.events + most_rows
  pub rows : old.room ≤ new.room + most_rows
  pub outputs : old.outputs.room ≤ new.outputs.room + most_outputs

-- there is room for so many, and the events, each of which has a row, can be counted
pub record HasRoom (held : Held) (least_rows least_outputs : ℕ) : Type 0 where
  pub rows : least_rows ≤ held.room
  pub outputs : least_outputs ≤ held.outputs.room
  pub counted : length held.server.history.events + least_rows < 2 ^ 63

-- what the last event gave was taken, and there is room for what the next one may give, and for its rows
abbrev pub is_ready : Held → Bool
is_ready h =
    length h.outputs.list == 0 && (nat_le (49169 + length h.server.conns) h.outputs.room
    && (nat_le 16392 h.room && nat_lt (length h.server.history.events) 9223372036854759416))

-- what is true of a server's parts between events: each client has a role, there are no more connections than can be numbered, no reply is left to be told, and there is room for every segment that can be
pub record IsSound (history : History) (all_conns : List Conn) (all_roles : List Role) (segments : List ℕ) (replies : List (ℕ × Reply)) (replies_room segments_room : ℕ) : Type 0 where
  pub roles : length all_roles ≡ length history.clients
  pub few : length history.clients ≤ 4096
  pub conns : length all_conns ≤ 65536
  pub legal : IsLegal history
  pub none : replies ≡ []
  pub others_room : 4096 ≤ replies_room
  pub memory_room : 32769 ≤ segments_room
  pub few_segments : length segments ≤ 32769
