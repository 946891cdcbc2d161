-- The memory of segments: how often it is held, made and dropped, and for what it is passed.
use Rattle.std.specs.Prelude.{◌≡◌, ◌≢◌, ℕ, ◌≤◌, ◌==◌, Bool, true, false, not, List, Some, Ok}
use Rattle.std.specs.List.{AllByRecursion}
use Rattle.ipc_call.specs.declared.calls.Call.TheVariants.{ShmAt}
use Rattle.ipc_call.specs.declared.replies.Answer.TheVariants.{Attached}
use Rattle.ipc_history.specs.History.{with_event}
use Rattle.ipc_model.specs.State.{process_at}
use Rattle.ipc_server.specs.declared.outputs.Output.{Output}
use Rattle.ipc_server.specs.declared.outputs.Output.TheVariants.{Make, Drop, Reply}
use Rattle.ipc_server.specs.declared.outputs.Pass.TheVariants as pass
use Rattle.ipc_server.specs.declared.peers.Conn.TheVariants.{Member}
use Rattle.ipc_server.specs.declared.peers.Peer.{Peer}
use Rattle.ipc_server.specs.Making.{event, is_in, result, size_of}
use Rattle.ipc_server.specs.Servers.{Server, conn_at, count, state}
use Rattle.ipc_wire.specs.declared.told.Told.{Told}
use Rattle.ipc_wire.specs.declared.told.Told.TheVariants.{Granted}
use Rattle.shm_seg.specs.Attachments.{attachment_at}
use Rattle.shm_seg.specs.declared.attachments.Attachment.{Attachment}

abbrev pub times : ℕ → List ℕ → ℕ
times segment memory = count (λ own. own == segment) memory

abbrev pub is_make : ℕ → Output → Bool
is_make segment (Make own size) = own == segment
is_make segment output = false

abbrev pub is_drop : ℕ → Output → Bool
is_drop segment (Drop own) = own == segment
is_drop segment output = false

abbrev pub makes_of : ℕ → List Output → ℕ
makes_of segment list = count (is_make segment) list

abbrev pub drops_of : ℕ → List Output → ℕ
drops_of segment list = count (is_drop segment) list

-- that of no segment is held twice
abbrev pub IsOnce : List ℕ → Type 0
IsOnce memory = (segment : ℕ) → times segment memory ≤ 1

-- the segment of each that is held is there
abbrev pub AreThere : Server → Type 0
AreThere s = AllByRecursion (λ segment. is_in (state s) segment ≡ true) s.memory

-- a reply with memory answers the shmat that was the event: the client of the connection has the segment attached under the number
-- that is told, for reading alone where the memory isn't writable
pub record IsAttached (before after : Server) (conn : ℕ) (what : Told) (segment : ℕ) (is_writable : Bool) : Type 0 where
  pub peer : Peer
  pub client : ℕ
  pub seq : ℕ
  pub now : ℕ
  pub id : ℕ
  pub flags : ℕ
  pub number : ℕ
  pub lent : conn_at after conn ≡ Member peer client seq
  pub asked : after.history ≡ with_event before.history (event now client (ShmAt id flags))
  pub granted : (result now client (ShmAt id flags) before).own ≡ Some (Ok (Attached number))
  pub told : what ≡ Granted (Attached number) (size_of after segment)
  pub attached : attachment_at (state after).shared.attached (process_at (state after) client) number
      ≡ Some (record { segment = segment; is_read_only = not is_writable })

-- so it is of each reply with memory
abbrev pub IsRightly : Server → Server → Output → Type 0
IsRightly before after (Reply conn seq what (pass.Memory segment is_writable)) = IsAttached before after conn what segment is_writable
IsRightly before after output = Unit {0}

-- a segment whose memory is dropped is attached by nobody
abbrev pub IsOfNobody : Server → Output → Type 0
IsOfNobody after (Drop segment) = (process number : ℕ) (a : Attachment)
    → attachment_at (state after).shared.attached process number ≡ Some a → a.segment ≢ segment
IsOfNobody after output = Unit {0}
