-- Memory is passed only to a client that has the segment attached.
use Rattle.std.proofs.Common.{◌≡◌, ℕ, Bool, true, false, cond, List, [], ◌∷◌, ◌++◌, Some, Ok, refl, sym, ap, ◌∙◌, subst, map}
use Rattle.std.specs.Prelude.{◌==◌, filter, not, slice_index_or}
use Rattle.std.specs.List.{AllByRecursion, list_any}
use Rattle.std.proofs.lemmas.Bool.{false≢true, true≢false}
use Rattle.ipc_call.specs.declared.calls.Call.{Call}
use Rattle.ipc_call.specs.declared.calls.Call.TheVariants.{ShmAt}
use Rattle.ipc_call.specs.declared.replies.Answer.TheVariants.{Attached}
use Rattle.ipc_history.specs.History.{History, run, with_event}
use Rattle.ipc_history.proofs.Runs.{tidy-run}
use Rattle.ipc_model.specs.State.{process_at}
use Rattle.ipc_server.specs.declared.outputs.Output.{Output}
use Rattle.ipc_server.specs.declared.outputs.Output.TheVariants as outputs
use Rattle.ipc_server.specs.declared.outputs.Pass.TheVariants as pass
use Rattle.ipc_server.specs.declared.peers.Conn.TheVariants.{Absent, Member}
use Rattle.ipc_server.specs.declared.peers.Peer.{Peer}
use Rattle.ipc_server.specs.declared.peers.Supply.{Supply}
use Rattle.ipc_server.specs.Going.{Went}
use Rattle.ipc_server.specs.Making.{applies, attached_reply, event, is_in, made, others_told, result, size_in, size_of, sweeps, with_memory}
use Rattle.ipc_server.specs.Servers.{Server, conn_at, state}
use Rattle.ipc_server.specs.Steps.{Event, serves, step}
use Rattle.ipc_model.specs.Segments.{segment_at}
use Rattle.ipc_space.specs.Answers.{can_give}
use Rattle.ipc_space.proofs.Answering.{own_answer}
use Rattle.ipc_wire.specs.declared.told.Told.TheVariants as told
use Rattle.shm_seg.specs.Attachments.{attachment_at}
use Rattle.shm_seg.specs.declared.attachments.Attachment.{Attachment}
use Rattle.server_laws.specs.Memory.{IsAttached, IsOfNobody, IsRightly}
use Rattle.server_laws.proofs.Every.{Each, each_append, each_held, each_moves, each_told}
use Rattle.server_laws.proofs.Memory.{holding}
use Rattle.server_laws.proofs.Moves.{Serves, is_plain, passing, plainly, serves_by}

-- nothing else passes memory
module _ (before later : Server) where
  right_plain : (o : Output) → is_plain o ≡ true → IsRightly before later o
  right_plain (outputs.Make segment size) plain = tt
  right_plain (outputs.Drop segment) plain = tt
  right_plain (outputs.Close conn why) plain = tt
  right_plain (outputs.Ask pid) plain = tt
  right_plain (outputs.Reply conn seq what pass.Nothing) plain = tt
  right_plain (outputs.Reply conn seq what (pass.Fork token)) plain = tt
  right_plain (outputs.Reply conn seq what (pass.Memory segment is_writable)) plain = absurd (false≢true plain)

  right_drops : (segments : List ℕ) → Each (IsRightly before later) (map (λ segment. outputs.Drop segment) segments)
  right_drops [] = tt
  right_drops (x ∷ xs) = (tt, right_drops xs)

-- what a shmat alone is answered
attaches : (call : Call) (number : ℕ) → can_give call (Attached number) ≡ true → (id : ℕ) × (flags : ℕ) × (call ≡ ShmAt id flags)
attaches (ShmAt id flags) number gives = (id, flags, refl)
attaches call number gives = absurd (false≢true gives)

pub same_history : (s : Server) (segment : ℕ) (b : Bool) → (holding s segment b).server.history ≡ s.history
same_history s segment true = refl
same_history s segment false = refl

same_conns : (s : Server) (segment : ℕ) (b : Bool) → (holding s segment b).server.conns ≡ s.conns
same_conns s segment true = refl
same_conns s segment false = refl

twice : (b : Bool) → not (not b) ≡ b
twice true = refl
twice false = refl

module _ (s : Server) (now conn client seq : ℕ) (call : Call) (peer : Peer) (last number : ℕ) (a : Attachment) (there : conn_at s conn ≡ Member peer client last)
    (own : (result now client call s).own ≡ Some (Ok (Attached number)))
    (is : attachment_at (state (made now client call s)).shared.attached (process_at (state (made now client call s)) client) number ≡ Some a) where
  abbrev t : Server
  t = made now client call s

  abbrev u : Server
  u = (with_memory a.segment t).server

  history_is : u.history ≡ t.history
  history_is = same_history t a.segment (list_any (λ own. own == a.segment) t.memory)

  conns_are : u.conns ≡ s.conns
  conns_are = same_conns t a.segment (list_any (λ own. own == a.segment) t.memory)

  shmat : (id : ℕ) × (flags : ℕ) × (call ≡ ShmAt id flags)
  shmat = attaches call number (own_answer s.history (event now client call) (Attached number) own)

  passed : IsAttached s (sweeps u).server conn (told.Granted (Attached number) (size_of t a.segment)) a.segment (not a.is_read_only)
  passed = record {
    peer = peer;
    client = client;
    seq = last;
    now = now;
    id = shmat.0;
    flags = shmat.1;
    number = number;
    lent = ap (λ cs. slice_index_or cs conn Absent) conns_are ∙ there;
    asked = history_is ∙ ap (λ (c : Call). with_event s.history (event now client c)) shmat.2;
    granted = subst (λ (c : Call). (result now client c s).own ≡ Some (Ok (Attached number))) shmat.2 own;
    told = ap (λ (h : History). told.Granted (Attached number) (size_in (segment_at (run h).shared a.segment))) (sym history_is);
    attached = ap (λ (h : History). attachment_at (run h).shared.attached (process_at (run h) client) number) history_is ∙ is
        ∙ ap (λ (b : Bool). Some (record { segment = a.segment; is_read_only = b })) (sym (twice a.is_read_only));
  }

right_serves : {s : Server} {w : Went} → Serves s w → Each (IsRightly s (sweeps w.server).server) w.outputs
right_serves {s} {w} (plainly m) = let later = (sweeps w.server).server in each_moves (IsRightly s later) (right_plain s later) (λ segment size. tt) m
right_serves (passing s now conn client seq call peer before number a may there own is) =
    let t = made now client call s in
    let kept = with_memory a.segment t in
    let later = (sweeps kept.server).server in
    each_append (IsRightly s later) (applies now client call s).outputs (kept.outputs ++ attached_reply conn seq number a t ∷ [])
    (each_told (IsRightly s later) (right_plain s later) s.conns s.roles (others_told now client call s))
    (each_append (IsRightly s later) kept.outputs (attached_reply conn seq number a t ∷ [])
    (each_held (IsRightly s later) (right_plain s later) (λ segment size. tt) t a.segment (list_any (λ own. own == a.segment) t.memory))
    (passed s now conn client seq call peer before number a there own is, tt))

pub passed_rightly : (supply : Supply) (now : ℕ) (e : Event) (s : Server) → AllByRecursion (λ o. IsRightly s (step supply now e s).server o) (step supply now e s).outputs
passed_rightly supply now e s =
    let w = serves supply now e s in
    let later = (sweeps w.server).server in
    each_append (IsRightly s later) w.outputs (sweeps w.server).outputs (right_serves (serves_by supply now e s))
    (right_drops s later (filter (λ segment. not (is_in (state w.server) segment)) w.server.memory))

-- what is dropped is of no attachment
module _ (later : Server) where
  free_plain : (o : Output) → is_plain o ≡ true → IsOfNobody later o
  free_plain (outputs.Make segment size) plain = tt
  free_plain (outputs.Drop segment) plain = absurd (false≢true plain)
  free_plain (outputs.Close conn why) plain = tt
  free_plain (outputs.Ask pid) plain = tt
  free_plain (outputs.Reply conn seq what with_it) plain = tt

  free_one : (segment : ℕ) → is_in (state later) segment ≡ false → IsOfNobody later (outputs.Drop segment)
  free_one segment gone process number a there same =
      true≢false (sym ((tidy-run later.history).filed process number a there).there ∙ ap (λ (k : ℕ). is_in (state later) k) same ∙ gone)

  free_if : (x : ℕ) (b : Bool) (xs : List ℕ) → is_in (state later) x ≡ b → Each (IsOfNobody later) (map (λ segment. outputs.Drop segment) xs)
      → Each (IsOfNobody later) (map (λ segment. outputs.Drop segment) (cond (not b) (x ∷ xs) xs))
  free_if x true xs is rest = rest
  free_if x false xs is rest = (free_one x is, rest)

  free_drops : (memory : List ℕ) → Each (IsOfNobody later) (map (λ segment. outputs.Drop segment) (filter (λ segment. not (is_in (state later) segment)) memory))
  free_drops [] = tt
  free_drops (x ∷ xs) = free_if x (is_in (state later) x) (filter (λ segment. not (is_in (state later) segment)) xs) refl (free_drops xs)

free_serves : {s : Server} {w : Went} → Serves s w → (later : Server) → Each (IsOfNobody later) w.outputs
free_serves (plainly m) later = each_moves (IsOfNobody later) (free_plain later) (λ segment size. tt) m
free_serves (passing s now conn client seq call peer before number a may there own is) later =
    let t = made now client call s in
    let kept = with_memory a.segment t in
    each_append (IsOfNobody later) (applies now client call s).outputs (kept.outputs ++ attached_reply conn seq number a t ∷ [])
    (each_told (IsOfNobody later) (free_plain later) s.conns s.roles (others_told now client call s))
    (each_append (IsOfNobody later) kept.outputs (attached_reply conn seq number a t ∷ [])
    (each_held (IsOfNobody later) (free_plain later) (λ segment size. tt) t a.segment (list_any (λ own. own == a.segment) t.memory)) (tt, tt))

pub dropped_free : (supply : Supply) (now : ℕ) (e : Event) (s : Server) → AllByRecursion (λ o. IsOfNobody (step supply now e s).server o) (step supply now e s).outputs
dropped_free supply now e s =
    let w = serves supply now e s in
    let later = (sweeps w.server).server in
    each_append (IsOfNobody later) w.outputs (sweeps w.server).outputs (free_serves (serves_by supply now e s) later) (free_drops later w.server.memory)
