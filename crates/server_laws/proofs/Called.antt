-- A call of a connection is made by its client, as the next event of the history, and by that alone.
use Rattle.std.proofs.Common.{◌≡◌, ℕ, ◌+◌, ◌<◌, Bool, true, false, List, Option, Some, None, Ok, Err, length, refl, ap, ◌∙◌}
use Rattle.std.specs.Prelude.{◌==◌, ◌&&◌, not, if◌then◌else◌}
use Rattle.std.specs.List.{list_any}
use Rattle.std.proofs.lemmas.Bool.{lt-ltb}
use Rattle.ipc_call.specs.declared.calls.Call.{Call}
use Rattle.ipc_call.specs.declared.replies.Answer.{Answer}
use Rattle.ipc_call.specs.declared.replies.Answer.TheVariants.{Attached}
use Rattle.ipc_history.specs.History.{with_event}
use Rattle.ipc_model.specs.Decision.{Outcome}
use Rattle.ipc_model.specs.State.{is_waiting, process_at}
use Rattle.ipc_server.specs.declared.outputs.Closing.TheVariants.{AnotherSender}
use Rattle.ipc_server.specs.declared.peers.Conn.{Conn}
use Rattle.ipc_server.specs.declared.peers.Conn.TheVariants.{Member}
use Rattle.ipc_server.specs.declared.peers.Peer.{Peer}
use Rattle.ipc_server.specs.declared.peers.Sender.{Sender}
use Rattle.ipc_server.specs.declared.peers.Supply.TheVariants.{Enough}
use Rattle.ipc_server.specs.Going.{Went, and_then, stays}
use Rattle.ipc_server.specs.Lives.{closes}
use Rattle.ipc_server.specs.Making.{answers_told, applies, attached_by, event, made, may_make, own_told, passes, result, says_told}
use Rattle.ipc_server.specs.Servers.{Server, conn_at, peer_in, state}
use Rattle.ipc_server.specs.Steps.{Sent, hears, is_sender, meanwhile, next, served, step, takes}
use Rattle.ipc_space.specs.Spaces.{own_reply}
use Rattle.ipc_wire.specs.Calls.{call_of}
use Rattle.ipc_wire.specs.Requests.{decode}
use Rattle.ipc_wire.specs.declared.requests.Ask.{Ask}
use Rattle.ipc_wire.specs.declared.requests.Message.{Message}
use Rattle.ipc_wire.specs.declared.requests.Request.{Request}
use Rattle.ipc_wire.specs.declared.requests.Request.TheVariants.{Calls}
use Rattle.ipc_wire.specs.declared.told.Told.TheVariants as told
use Rattle.shm_seg.specs.Attachments.{attachment_at}
use Rattle.shm_seg.specs.declared.attachments.Attachment.{Attachment}
use Rattle.server_laws.proofs.Passed.{same_history}

module _ (conn client seq : ℕ) (t : Server) where
  number_history : (number : ℕ) (o : Option Attachment) → (passes conn seq number o t).server.history ≡ t.history
  number_history number None = refl
  number_history number (Some a) = same_history t a.segment (list_any (λ own. own == a.segment) t.memory)

  answer_history : (answer : Answer) → (says_told conn client seq (told.Granted answer 0) (attached_by answer) t).server.history ≡ t.history
  answer_history (Attached number) = number_history number (attachment_at (state t).shared.attached (process_at (state t) client) number)
  answer_history answer = refl

  told_history : (place : ℕ) (own : Option Outcome) → (answers_told conn client seq (own_reply place own) t).server.history ≡ t.history
  told_history place None = refl
  told_history place (Some (Ok answer)) = answer_history answer
  told_history place (Some (Err rule)) = refl

module _ (s : Server) (now conn token client before : ℕ) (peer : Peer) (sender : Sender) (bytes : List ℕ) (m : Message) (ask : Ask)
    (there : conn_at s conn ≡ Member peer client before) (idle : is_waiting (state s) client ≡ false) (known : client < length s.history.clients)
    (sends : is_sender peer sender ≡ true) (read : decode bytes ≡ Some m) (asks : m.request ≡ Calls ask) where
  abbrev call : Call
  call = call_of ask

  may : may_make s client ≡ true
  may i = lt-ltb client (length s.history.clients) known i && not (idle i)

  abbrev answered : Went
  answered = and_then (applies now client call s) (answers_told conn client m.seq (own_told now client call s))

  pub called : (step Enough now (Sent conn sender bytes token) s).server.history ≡ with_event s.history (event now client call)
  called =
      ap (λ (x : Conn). (hears Enough now conn sender bytes token (peer_in x) s).server.history) there
      ∙ ap (λ (b : Bool). (if b then served Enough now conn token (decode bytes) s else closes now conn AnotherSender s).server.history) sends
      ∙ ap (λ (o : Option Message). (served Enough now conn token o s).server.history) read
      ∙ ap (λ (x : Conn). (takes now conn token m x s).server.history) there
      ∙ ap (λ (b : Bool). (if b then meanwhile now conn client before m.request s else next now conn peer client token m.seq m.request s).server.history) idle
      ∙ ap (λ (r : Request). (next now conn peer client token m.seq r s).server.history) asks
      ∙ ap (λ (b : Bool). (if b then answered else stays s).server.history) may
      ∙ told_history conn client m.seq (made now client call s) (length s.history.events + 1) (result now client call s).own
