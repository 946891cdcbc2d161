-- Each request of a connection is answered once, on that connection.
use Rattle.std.proofs.Common.{◌≡◌, ℕ, zero, suc, ◌+◌, ◌<◌, ◌≤◌, Bool, true, false, List, [], ◌∷◌, ◌++◌, Option, Some, None, Ok, Err, length, refl, sym, ap, ◌∙◌, arith, append-nil, subst, map, get_or, set, replicate}
use Rattle.std.specs.Prelude.{◌&&◌, ◌==◌, is_some, nat_le, nat_lt, not, if◌then◌else◌, filter}
use Rattle.std.specs.List.{list_any}
use Rattle.std.proofs.lemmas.Bool.{and_parts, eqb-true, false≢true, lt-ltb, true≢false}
use Rattle.std.proofs.lemmas.Option.{none-some}
use Rattle.ipc_call.specs.declared.calls.Call.{Call}
use Rattle.ipc_call.specs.declared.calls.Call.TheVariants as calls
use Rattle.ipc_call.specs.declared.replies.Answer.{Answer}
use Rattle.ipc_call.specs.declared.replies.Answer.TheVariants.{Attached}
use Rattle.ipc_creds.specs.Credentials.{Credentials, groups_max}
use Rattle.ipc_history.specs.History.{IsLegal}
use Rattle.ipc_model.specs.Decision.{Outcome}
use Rattle.ipc_model.specs.State.{State, creds_at, is_waiting, process_at}
use Rattle.ipc_namespace.specs.Looking.{soonest}
use Rattle.ipc_server.specs.declared.outputs.Closing.{Closing}
use Rattle.ipc_server.specs.declared.outputs.Closing.TheVariants as why
use Rattle.ipc_server.specs.declared.outputs.Output.{Output}
use Rattle.ipc_server.specs.declared.outputs.Output.TheVariants as outputs
use Rattle.ipc_server.specs.declared.outputs.Pass.{Pass}
use Rattle.ipc_server.specs.declared.outputs.Pass.TheVariants as pass
use Rattle.ipc_server.specs.declared.peers.Conn.{Conn}
use Rattle.ipc_server.specs.declared.peers.Conn.TheVariants.{Absent, Silent, Member}
use Rattle.ipc_server.specs.declared.peers.Peer.{Peer}
use Rattle.ipc_server.specs.declared.peers.Role.TheVariants.{Lead, Child}
use Rattle.ipc_server.specs.declared.peers.Sender.{Sender}
use Rattle.ipc_server.specs.declared.peers.Supply.{Supply}
use Rattle.ipc_server.specs.declared.peers.Supply.TheVariants.{Enough, Short, Unread}
use Rattle.ipc_server.specs.Going.{Went, and_then, says, stays}
use Rattle.ipc_server.specs.Lives.{announces, bar, begins, closed_from, closed_one, closes, closes_all, comes_forth, connects, connects_unless, ends, enters, fork_bar, forks_unless, grows_up, has_room, hello, hindered, identity_of, is_begun, is_free, is_grown_up, is_let_in, joins, kills, leaves, lends, member_in, more_of, new_bar, pid_of_child, supervisor, without}
use Rattle.ipc_server.specs.Looks.{look_told}
use Rattle.ipc_server.specs.Making.{answers_told, applies, asks, attached_by, attached_reply, is_in, made, makes, may_make, own_told, passes, reply, result, says_told, size_of, sweeps, under}
use Rattle.ipc_server.specs.Servers.{Server, child_of, conn_at, free_after, free_client, is_member, is_of, is_process, lead_of, peer_in, role_at, state, with_conn, with_role}
use Rattle.ipc_server.specs.Steps.{Closed, Connected, Ended, Event, ForkLost, Mapped, Sent, Tick, first, hears, is_due, is_sender, meanwhile, next, served, serves, step, takes}
use Rattle.ipc_space.proofs.Balance.{ends_of}
use Rattle.ipc_space.specs.Spaces.{own_reply}
use Rattle.ipc_wire.specs.Calls.{call_of}
use Rattle.ipc_wire.specs.Requests.{decode}
use Rattle.ipc_wire.specs.declared.requests.Message.{Message}
use Rattle.ipc_wire.specs.declared.requests.Request.{Request}
use Rattle.ipc_wire.specs.declared.requests.Request.TheVariants.{Hello, Cancel, Fork, Calls, Looks}
use Rattle.ipc_wire.specs.declared.told.Hindrance.{Hindrance}
use Rattle.ipc_wire.specs.declared.told.Hindrance.TheVariants as hindrance
use Rattle.ipc_wire.specs.declared.told.Told.{Told}
use Rattle.ipc_wire.specs.declared.told.Told.TheVariants as told
use Rattle.shm_seg.specs.Attachments.{attachment_at}
use Rattle.shm_seg.specs.declared.attachments.Attachment.{Attachment}
use Rattle.server_laws.specs.Telling.{AreLent, answered_on, asked_by, asked_on, is_open, is_short, seq_in, seq_of, waiting_in, waiting_on, wants_reply}
use Rattle.server_laws.proofs.Conns.{map_without, set_gone, set_here}
use Rattle.server_laws.proofs.Kept.{At, Kept, answered-append, answered_as, kept_makes, kept_says, kept_still, lent_is, lent_so, lent_to, seq_here}
use Rattle.server_laws.proofs.Memory.{holding}
use Rattle.server_laws.proofs.Moves.{joined}
use Rattle.server_laws.proofs.Others.{Alive, Rests, after_ended, connects_kept, departs_if_kept, dies_kept, executes_kept, founded_kept, free_ended, hears_rest, interrupts_kept, kills_kept, leaves_kept, rests_kept, shown_kept}
use Rattle.server_laws.proofs.Waiting.{ended_idle, even_other, one_true, own_answered, own_apart, own_waits}

-- lists of which nothing is left
first_none : (xs ys : List ℕ) → [] ≡ xs ++ ys → xs ≡ []
first_none [] ys is = refl
first_none (x ∷ xs) ys is = cc

next_none : (xs ys : List ℕ) → [] ≡ xs ++ ys → ys ≡ []
next_none [] ys is = sym is
next_none (x ∷ xs) ys is = cc

-- one that has said nothing, and one that isn't there, have no request that waits
set_silent : (s : State) (xs : List Conn) (c : ℕ) (peer : Peer) → waiting_in s (get_or (set xs c (Silent peer)) c Absent) ≡ []
set_silent s [] c peer = refl
set_silent s (x ∷ xs) zero peer = refl
set_silent s (x ∷ xs) (suc c) peer = set_silent s xs c peer

closed_waits : (s : State) (x : Conn) → is_some (peer_in x) ≡ false → waiting_in s x ≡ []
closed_waits s Absent none = refl
closed_waits s (Silent peer) none = refl
closed_waits s (Member peer client seq) none = absurd (true≢false none)

module _ (c : ℕ) where
  -- a connection that is there still has its requests answered but the one that waits, and one that isn't is told nothing
  pub record Answered (s : Server) (w : Went) (asked : List ℕ) : Type 0 where
    pub kept : is_open w.server c ≡ true → waiting_on s c ++ asked ≡ answered_on c w.outputs ++ waiting_on w.server c
    pub gone : is_open w.server c ≡ false → answered_on c w.outputs ≡ []

  by_rest : (s : Server) (w : Went) → Rests c s w → Answered s w []
  by_rest s w rests = record {
    kept = λ there. append-nil (waiting_on s c) ∙ rests.even;
    gone = λ none. first_none (answered_on c w.outputs) (waiting_on w.server c)
        (sym (closed_waits (state s) (conn_at s c) (ap (λ (x : Conn). is_some (peer_in x)) (sym rests.conn) ∙ none)) ∙ rests.even);
  }

  by_kept : {s : Server} {w : Went} → Kept c s w → Answered s w []
  by_kept {s} {w} kept = by_rest s w (rests_kept c kept)

  by_gone : (s : Server) (w : Went) (asked : List ℕ) → is_open w.server c ≡ false → answered_on c w.outputs ≡ [] → Answered s w asked
  by_gone s w asked closed none = record { kept = λ there. absurd (true≢false (sym there ∙ closed)); gone = λ out. none }

  -- its request is answered at once, or waits
  record Heard (w : Went) (seq : ℕ) : Type 0 where
    open_still : is_open w.server c ≡ true
    told : answered_on c w.outputs ++ waiting_on w.server c ≡ seq ∷ []

  by_heard : (s : Server) (w : Went) (seq : ℕ) → waiting_on s c ≡ [] → Heard w seq → Answered s w (seq ∷ [])
  by_heard s w seq idle heard = record {
    kept = λ there. ap (λ (l : List ℕ). l ++ seq ∷ []) idle ∙ sym heard.told;
    gone = λ closed. absurd (true≢false (sym heard.open_still ∙ closed));
  }

  by_if : {s : Server} {v w : Went} {asked : List ℕ} (b : Bool) → Answered s v asked → Answered s w asked → Answered s (if b then v else w) asked
  by_if true m n = m
  by_if false m n = n

  heard_if : {v w : Went} {seq : ℕ} (b : Bool) → Heard v seq → Heard w seq → Heard (if b then v else w) seq
  heard_if true m n = m
  heard_if false m n = n

  -- a connection that isn't a member's
  unlent_at : (s : Server) → IsLegal s.history → is_member (conn_at s c) ≡ false → At c s
  unlent_at s legal none = record { legal = legal; own = λ peer client seq is. absurd (true≢false (sym (ap is_member is) ∙ none)) }

  -- it ends
  left_gone : (now : ℕ) (x : Conn) (s : Server) → IsLegal s.history → (is_open (leaves now c x s).server c ≡ false) × (answered_on c (leaves now c x s).outputs ≡ [])
  left_gone now x s legal =
      let t = with_conn s c Absent in
      let none : conn_at t c ≡ Absent = set_gone s.conns c in
      let kept = departs_if_kept c now (member_in x) t (unlent_at t legal (ap is_member none)) in
      let w = leaves now c x s in (
        ap (λ (y : Conn). is_some (peer_in y)) (kept.conn ∙ none),
        first_none (answered_on c w.outputs) (waiting_on w.server c) (sym (ap (λ (y : Conn). waiting_in (state t) y) none) ∙ kept.even),
      )

  closed_answered : (now : ℕ) (why : Closing) (s : Server) (asked : List ℕ) → IsLegal s.history → Answered s (closes now c why s) asked
  closed_answered now why s asked legal = let left = left_gone now (conn_at s c) s legal in by_gone s (closes now c why s) asked left.0 left.1

  -- it is told so, and no more
  hindered_heard : (seq : ℕ) (why : Hindrance) (s : Server) → is_open s c ≡ true → waiting_on s c ≡ [] → Heard (hindered c seq why s) seq
  hindered_heard seq why s there idle = record {
    open_still = there;
    told = ap (λ (l : List ℕ). (seq_in c (reply c seq (told.Hindered why)) ++ []) ++ l) idle ∙ append-nil (seq_in c (reply c seq (told.Hindered why)) ++ []) ∙ append-nil (seq_in c (reply c seq (told.Hindered why))) ∙ seq_here c seq (told.Hindered why) pass.Nothing;
  }

  -- what came before told it nothing
  heard_after : {s : Server} {v w : Went} {seq : ℕ} → Kept c s v → waiting_on s c ≡ [] → Heard w seq → Heard (joined v w) seq
  heard_after {s} {v} {w} {seq} kept idle heard = record {
    open_still = heard.open_still;
    told = ap (λ (l : List ℕ). l ++ waiting_on w.server c) (answered-append c v.outputs w.outputs)
        ∙ ap (λ (l : List ℕ). (l ++ answered_on c w.outputs) ++ waiting_on w.server c) (first_none (answered_on c v.outputs) (waiting_on v.server c) (sym idle ∙ kept.even))
        ∙ heard.told;
  }

  module _ (now : ℕ) (peer : Peer) (seq : ℕ) where
    IsSilent : Server → Type 0
    IsSilent s = conn_at s c ≡ Silent peer

    silent_open : (s : Server) → conn_at s c ≡ Silent peer → is_open s c ≡ true
    silent_open s silent = ap (λ (y : Conn). is_some (peer_in y)) silent

    silent_waits : (s : Server) → conn_at s c ≡ Silent peer → waiting_on s c ≡ []
    silent_waits s silent = ap (λ (y : Conn). waiting_in (state s) y) silent

    silent_at : (s : Server) → IsLegal s.history → conn_at s c ≡ Silent peer → At c s
    silent_at s legal silent = unlent_at s legal (ap is_member silent)

    let_in_heard : (client : ℕ) (s : Server) → conn_at s c ≡ Silent peer → is_waiting (state s) client ≡ false → Heard (is_let_in c peer seq client s) seq
    let_in_heard client s silent idle =
        let here : get_or (set s.conns c (Member peer client seq)) c Absent ≡ Member peer client seq = set_here s.conns c (Member peer client seq) (silent_open s silent) in record {
          open_still = ap (λ (y : Conn). is_some (peer_in y)) here;
          told = ap (λ (y : Conn). (seq_in c (reply c seq (told.Client client)) ++ []) ++ waiting_in (state s) y) here
              ∙ ap (λ (b : Bool). (seq_in c (reply c seq (told.Client client)) ++ []) ++ (if b then seq ∷ [] else [])) idle
              ∙ append-nil (seq_in c (reply c seq (told.Client client)) ++ []) ∙ append-nil (seq_in c (reply c seq (told.Client client))) ∙ seq_here c seq (told.Client client) pass.Nothing;
        }

    lends_heard : (lead client : ℕ) (s : Server) → IsLegal s.history → conn_at s c ≡ Silent peer → is_waiting (state s) client ≡ false → Heard (lends now c peer seq lead client s) seq
    lends_heard lead client s legal silent idle =
        let clones = kept_makes c now lead (calls.Clone client) s refl (silent_at s legal silent) in
        let t = (makes now lead (calls.Clone client) s).server in
        let assume = calls.Assume (identity_of peer.creds) in
        let assumes = kept_makes c now client assume t refl clones.at in
        let u = (makes now client assume t).server in
        heard_after clones (silent_waits s silent) (heard_after assumes (silent_waits t (clones.conn ∙ silent))
        (let_in_heard client u (assumes.conn ∙ clones.conn ∙ silent) (assumes.idle client (clones.idle client idle))))

    hindered_silent : (why : Hindrance) (s : Server) → conn_at s c ≡ Silent peer → Heard (hindered c seq why s) seq
    hindered_silent why s silent = hindered_heard seq why s (silent_open s silent) (silent_waits s silent)

    joins_heard : (lead : ℕ) (client : Option ℕ) (s : Server) → IsLegal s.history → conn_at s c ≡ Silent peer → ((k : ℕ) → client ≡ Some k → is_waiting (state s) k ≡ false) → Heard (joins now c peer seq lead client s) seq
    joins_heard lead None s legal silent idle = hindered_silent hindrance.NoClientLeft s silent
    joins_heard lead (Some client) s legal silent idle = heard_if (has_room s peer.creds.euid 1) (lends_heard lead client s legal silent (idle client refl)) (hindered_silent hindrance.TooManyOfUser s silent)

    begun_heard : (lead client : ℕ) (s : Server) → IsLegal s.history → conn_at s c ≡ Silent peer → is_waiting (state s) client ≡ false → Heard (is_begun now c peer seq lead client s) seq
    begun_heard lead client s legal silent idle =
        let founded = founded_kept c now lead peer.pid peer s (λ p k q is. absurd (true≢false (sym (ap is_member is) ∙ ap is_member silent))) (silent_at s legal silent) in
        let t = with_role (makes now lead (calls.Begin peer.pid (identity_of peer.creds)) s).server lead Lead in
        heard_after founded (silent_waits s silent) (lends_heard lead client t founded.at.legal (founded.conn ∙ silent) (founded.idle client idle))

    begins_heard : (lead client : Option ℕ) (s : Server) → IsLegal s.history → conn_at s c ≡ Silent peer → ((k : ℕ) → client ≡ Some k → is_waiting (state s) k ≡ false) → Heard (begins now c peer seq lead client s) seq
    begins_heard (Some lead) (Some client) s legal silent idle = heard_if (has_room s peer.creds.euid 2) (begun_heard lead client s legal silent (idle client refl)) (hindered_silent hindrance.TooManyOfUser s silent)
    begins_heard (Some lead) None s legal silent idle = hindered_silent hindrance.NoClientLeft s silent
    begins_heard None client s legal silent idle = hindered_silent hindrance.NoClientLeft s silent

    enters_heard : (lead : Option ℕ) (s : Server) → IsLegal s.history → conn_at s c ≡ Silent peer → Heard (enters now c peer seq lead s) seq
    enters_heard (Some lead) s legal silent = joins_heard lead (free_client s) s legal silent (λ k is. ended_idle s.history k (free_ended s 0 k is))
    enters_heard None s legal silent = begins_heard (free_client s) (free_after (free_client s) s) s legal silent (λ k is. ended_idle s.history k (after_ended s (free_client s) k is))

    grown_heard : (child client : ℕ) (s : Server) → IsLegal s.history → conn_at s c ≡ Silent peer → is_waiting (state s) client ≡ false → Heard (is_grown_up now c peer seq child client s) seq
    grown_heard child client s legal silent idle =
        let shown = shown_kept c now child peer.pid peer s (λ p k q is. absurd (true≢false (sym (ap is_member is) ∙ ap is_member silent))) (silent_at s legal silent) in
        let named = (makes now child (calls.Name peer.pid) s).server in
        let t = with_role (makes now child (calls.Assume (identity_of peer.creds)) named).server child Lead in
        heard_after shown (silent_waits s silent) (lends_heard child client t shown.at.legal (shown.conn ∙ silent) (shown.idle client idle))

    grows_heard : (child : ℕ) (client : Option ℕ) (s : Server) → IsLegal s.history → conn_at s c ≡ Silent peer → ((k : ℕ) → client ≡ Some k → is_waiting (state s) k ≡ false) → Heard (grows_up now c peer seq child client s) seq
    grows_heard child None s legal silent idle = hindered_silent hindrance.NoClientLeft s silent
    grows_heard child (Some client) s legal silent idle = heard_if (has_room s peer.creds.euid (more_of (creds_at (state s) child).euid peer.creds.euid))
        (grown_heard child client s legal silent (idle client refl)) (hindered_silent hindrance.TooManyOfUser s silent)

    forth_answered : (child lead : Option ℕ) (s : Server) → IsLegal s.history → conn_at s c ≡ Silent peer → Answered s (comes_forth now c peer seq child lead s) (seq ∷ [])
    forth_answered (Some child) None s legal silent =
        by_heard s (grows_up now c peer seq child (free_client s) s) seq (silent_waits s silent) (grows_heard child (free_client s) s legal silent (λ k is. ended_idle s.history k (free_ended s 0 k is)))
    forth_answered (Some child) (Some lead) s legal silent = closed_answered now why.BadToken s (seq ∷ []) legal
    forth_answered None lead s legal silent = closed_answered now why.BadToken s (seq ∷ []) legal

    hello_answered : (version token : ℕ) (s : Server) → IsLegal s.history → conn_at s c ≡ Silent peer → Answered s (hello now c peer seq version token s) (seq ∷ [])
    hello_answered version token s legal silent = by_if (not (version == 1)) (closed_answered now why.BadVersion s (seq ∷ []) legal)
        (by_if (token == 0) (by_heard s (enters now c peer seq (lead_of s peer.pid) s) seq (silent_waits s silent) (enters_heard (lead_of s peer.pid) s legal silent))
        (forth_answered (child_of s token) (lead_of s peer.pid) s legal silent))

    first_answered : (request : Request) (s : Server) → IsLegal s.history → conn_at s c ≡ Silent peer → Answered s (first now c peer seq request s) (if wants_reply request then seq ∷ [] else [])
    first_answered (Hello version token) s legal silent = hello_answered version token s legal silent
    first_answered (Cancel number) s legal silent = closed_answered now why.OutOfTurn s [] legal
    first_answered Fork s legal silent = closed_answered now why.OutOfTurn s (seq ∷ []) legal
    first_answered (Calls ask) s legal silent = closed_answered now why.OutOfTurn s (seq ∷ []) legal
    first_answered (Looks look) s legal silent = closed_answered now why.OutOfTurn s (seq ∷ []) legal

  -- a reply to it, after which its client doesn't wait
  replied_heard : (seq : ℕ) (what : Told) (with_it : Pass) (s : Server) → is_open s c ≡ true → waiting_on s c ≡ [] → Heard (says (outputs.Reply c seq what with_it) s) seq
  replied_heard seq what with_it s there idle = record {
    open_still = there;
    told = ap (λ (l : List ℕ). (seq_in c (outputs.Reply c seq what with_it) ++ []) ++ l) idle ∙ append-nil (seq_in c (outputs.Reply c seq what with_it) ++ []) ∙ append-nil (seq_in c (outputs.Reply c seq what with_it)) ∙ seq_here c seq what with_it;
  }

  -- a fork
  announces_heard : (now euid seq token : ℕ) (lead child : Option ℕ) (s : Server) → At c s → is_open s c ≡ true → waiting_on s c ≡ [] → Heard (announces now c euid seq token lead child s) seq
  announces_heard now euid seq token (Some lead) (Some child) s at there idle =
      let fork = calls.Fork child (pid_of_child child) in
      let forks = kept_makes c now lead fork s refl at in
      let forked = (makes now lead fork s).server in
      heard_after forks idle (replied_heard seq (told.Token token) (pass.Fork token) (with_role forked child (Child token euid))
      (ap (λ (y : Conn). is_some (peer_in y)) forks.conn ∙ there)
      (next_none (answered_on c (makes now lead fork s).outputs) (waiting_on forked c) (sym idle ∙ forks.even)))
  announces_heard now euid seq token (Some lead) None s at there idle = hindered_heard seq hindrance.NoClientLeft s there idle
  announces_heard now euid seq token None child s at there idle = hindered_heard seq hindrance.NoClientLeft s there idle

  forks_heard : (o : Option Hindrance) (now pid euid seq token : ℕ) (s : Server) → At c s → is_open s c ≡ true → waiting_on s c ≡ [] → Heard (forks_unless o now c pid euid seq token s) seq
  forks_heard (Some why) now pid euid seq token s at there idle = hindered_heard seq why s there idle
  forks_heard None now pid euid seq token s at there idle = announces_heard now euid seq token (lead_of s pid) (free_client s) s at there idle

  -- a call of its client, which doesn't wait
  module _ (now client seq : ℕ) (call : Call) (s : Server) (peer : Peer) (before : ℕ) (at : At c s) (there : conn_at s c ≡ Member peer client before)
      (idle : is_waiting (state s) client ≡ false) (may : may_make s client ≡ true) where
    abbrev t : Server
    t = made now client call s

    only : (k : ℕ) → lent_to c (role_at s k) ≡ true → 1 ≤ ends_of k (result now client call s).ended → k ≡ client
    only k lent some = by (client == k) refl
      where
        by : (b : Bool) → (client == k) ≡ b → k ≡ client
        by true same = sym (eqb-true client k same)
        by false other =
            let even = even_other s now client call at.legal may k other in
            (at.own peer client before there).alone k (one_true (is_waiting (state s) k) (omega (arith, even, some))) lent

    none_told : answered_on c (applies now client call s).outputs ≡ []
    none_told =
        answered_as c s.conns s.roles peer client before there (at.own peer client before there).lent (length s.history.events + 1) 1 (result now client call s).ended only
        ∙ ap (λ (n : ℕ). replicate n before) (own_apart s now client call at.legal may)

    told_then : (w : Went) → Heard w seq → Heard (joined (applies now client call s) w) seq
    told_then w heard = record {
      open_still = heard.open_still;
      told = ap (λ (l : List ℕ). l ++ waiting_on w.server c) (answered-append c (applies now client call s).outputs w.outputs)
          ∙ ap (λ (l : List ℕ). (l ++ answered_on c w.outputs) ++ waiting_on w.server c) none_told
          ∙ heard.told;
    }

    open_there : is_open t c ≡ true
    open_there = ap (λ (y : Conn). is_some (peer_in y)) there

    idle_there : is_waiting (state t) client ≡ false → waiting_on t c ≡ []
    idle_there rests = ap (λ (y : Conn). waiting_in (state t) y) there ∙ ap (λ (b : Bool). if b then before ∷ [] else []) rests

    memory_heard : (number : ℕ) (a : Attachment) (b : Bool) → is_waiting (state t) client ≡ false
        → Heard (and_then (holding t a.segment b) (says (attached_reply c seq number a t))) seq
    memory_heard number a true rests = replied_heard seq (told.Granted (Attached number) (size_of t a.segment)) (pass.Memory a.segment (not a.is_read_only)) t open_there (idle_there rests)
    memory_heard number a false rests =
        let heard = replied_heard seq (told.Granted (Attached number) (size_of t a.segment)) (pass.Memory a.segment (not a.is_read_only)) (holding t a.segment false).server open_there (idle_there rests) in
        record { open_still = heard.open_still; told = heard.told }

    number_heard : (number : ℕ) (o : Option Attachment) → is_waiting (state t) client ≡ false → Heard (passes c seq number o t) seq
    number_heard number None rests = replied_heard seq (told.Granted (Attached number) 0) pass.Nothing t open_there (idle_there rests)
    number_heard number (Some a) rests = memory_heard number a (list_any (λ own. own == a.segment) t.memory) rests

    answer_heard : (answer : Answer) → is_waiting (state t) client ≡ false → Heard (says_told c client seq (told.Granted answer 0) (attached_by answer) t) seq
    answer_heard (Attached number) rests = number_heard number (attachment_at (state t).shared.attached (process_at (state t) client) number) rests
    answer_heard answer rests = replied_heard seq (told.Granted answer 0) pass.Nothing t open_there (idle_there rests)

    waits_heard : is_waiting (state t) client ≡ true → Heard (stays (with_conn t c (under seq (conn_at t c)))) seq
    waits_heard waits =
        let here : get_or (set t.conns c (under seq (conn_at t c))) c Absent ≡ Member peer client seq = set_here t.conns c (under seq (conn_at t c)) open_there ∙ ap (under seq) there in record {
          open_still = ap (λ (y : Conn). is_some (peer_in y)) here;
          told = ap (λ (y : Conn). waiting_in (state t) y) here ∙ ap (λ (b : Bool). if b then seq ∷ [] else []) waits;
        }

    own_heard : (o : Option Outcome) → (result now client call s).own ≡ o → Heard (answers_told c client seq (own_reply (length s.history.events + 1) o) t) seq
    own_heard None own = waits_heard (own_waits s now client call at.legal may own)
    own_heard (Some (Ok answer)) own = answer_heard answer (own_answered s now client call at.legal may (Ok answer) own)
    own_heard (Some (Err rule)) own = replied_heard seq (told.Refused rule) pass.Nothing t open_there (idle_there (own_answered s now client call at.legal may (Err rule) own))

    called_heard : Heard (and_then (applies now client call s) (answers_told c client seq (own_told now client call s))) seq
    called_heard = told_then (answers_told c client seq (own_told now client call s) t) (own_heard (result now client call s).own refl)

  asks_heard : (now client seq : ℕ) (call : Call) (s : Server) (peer : Peer) (before : ℕ) → At c s → conn_at s c ≡ Member peer client before → is_waiting (state s) client ≡ false → client < length s.history.clients
      → Heard (asks now c client seq call s) seq
  asks_heard now client seq call s peer before at there idle known =
      let may : may_make s client ≡ true = λ i. lt-ltb client (length s.history.clients) known i && not (idle i) in
      let may_too : may_make s client ≡ true = may in
      subst (λ (b : Bool). Heard (if b then and_then (applies now client call s) (answers_told c client seq (own_told now client call s)) else stays s) seq) (sym may_too)
      (called_heard now client seq call s peer before at there idle may)

  -- a message of its own
  meanwhile_answered : (now client seq number : ℕ) (request : Request) (s : Server) → At c s → Answered s (meanwhile now c client seq request s) (if wants_reply request then number ∷ [] else [])
  meanwhile_answered now client seq number (Cancel other) s at = by_if (other == seq) (by_kept (interrupts_kept c now client s at)) (by_kept (kept_still c s at))
  meanwhile_answered now client seq number (Hello version token) s at = closed_answered now why.TwoRequests s (number ∷ []) at.legal
  meanwhile_answered now client seq number Fork s at = closed_answered now why.TwoRequests s (number ∷ []) at.legal
  meanwhile_answered now client seq number (Calls ask) s at = closed_answered now why.TwoRequests s (number ∷ []) at.legal
  meanwhile_answered now client seq number (Looks look) s at = closed_answered now why.TwoRequests s (number ∷ []) at.legal

  next_answered : (now : ℕ) (peer : Peer) (client token seq before : ℕ) (request : Request) (s : Server) → At c s → conn_at s c ≡ Member peer client before → is_waiting (state s) client ≡ false → client < length s.history.clients
      → Answered s (next now c peer client token seq request s) (if wants_reply request then seq ∷ [] else [])
  next_answered now peer client token seq before (Hello version other) s at there idle known = closed_answered now why.OutOfTurn s (seq ∷ []) at.legal
  next_answered now peer client token seq before (Cancel other) s at there idle known = by_kept (kept_still c s at)
  next_answered now peer client token seq before request s at there idle known = by request
    where
      open_here : is_open s c ≡ true
      open_here = ap (λ (y : Conn). is_some (peer_in y)) there

      idle_here : waiting_on s c ≡ []
      idle_here = ap (λ (y : Conn). waiting_in (state s) y) there ∙ ap (λ (b : Bool). if b then before ∷ [] else []) idle

      by : (request : Request) → Answered s (next now c peer client token seq request s) (if wants_reply request then seq ∷ [] else [])
      by (Hello version other) = closed_answered now why.OutOfTurn s (seq ∷ []) at.legal
      by (Cancel other) = by_kept (kept_still c s at)
      by Fork = by_heard s (forks_unless (fork_bar s peer.creds.euid token) now c peer.pid peer.creds.euid seq token s) seq idle_here (forks_heard (fork_bar s peer.creds.euid token) now peer.pid peer.creds.euid seq token s at open_here idle_here)
      by (Calls ask) = by_heard s (asks now c client seq (call_of ask) s) seq idle_here (asks_heard now client seq (call_of ask) s peer before at there idle known)
      by (Looks look) = by_heard s (says (reply c seq (look_told s peer look)) s) seq idle_here (replied_heard seq (look_told s peer look) pass.Nothing s open_here idle_here)

  -- what is dropped tells nobody
  none_dropped : (segments : List ℕ) → answered_on c (map (λ segment. outputs.Drop segment) segments) ≡ []
  none_dropped [] = refl
  none_dropped (x ∷ xs) = none_dropped xs

  pub short_answered : (s : Server) (now conn token : ℕ) (peer : Peer) (sender : Sender) (bytes : List ℕ) (m : Message)
      → peer_in (conn_at s conn) ≡ Some peer → is_sender peer sender ≡ true → decode bytes ≡ Some m
      → answered_on c (step Short now (Sent conn sender bytes token) s).outputs ≡ (if conn == c then m.seq ∷ [] else [])
  short_answered s now conn token peer sender bytes m there sends read =
      ap (λ (o : Option Peer). answered_on c (and_then (hears Short now conn sender bytes token o s) sweeps).outputs) there
      ∙ ap (λ (b : Bool). answered_on c (and_then (if b then served Short now conn token (decode bytes) s else closes now conn why.AnotherSender s) sweeps).outputs) sends
      ∙ ap (λ (o : Option Message). answered_on c (and_then (served Short now conn token o s) sweeps).outputs) read
      ∙ ap (λ (l : List ℕ). seq_in c (reply conn m.seq (told.Hindered hindrance.Memory)) ++ l) (none_dropped (filter (λ segment. not (is_in (state s) segment)) s.memory))
      ∙ append-nil (seq_in c (reply conn m.seq (told.Hindered hindrance.Memory)))

  -- each event, where clients are lent as they should be
  module _ (s : Server) (lent : AreLent s) where
    at_start : At c s
    at_start = record {
      legal = lent.legal;
      own = λ peer client seq is. record {
        lent = lent_so c (role_at s client) (lent.lent c peer client seq is).role;
        alone = λ other waits to. same_client peer client seq other is (lent.alone c other waits (lent_is c (role_at s other) to));
      };
    }
      where
        same_client : (peer : Peer) (client seq other : ℕ) → conn_at s c ≡ Member peer client seq → (q : Peer) × (n : ℕ) × (conn_at s c ≡ Member q other n) → other ≡ client
        same_client peer client seq other is also = let two : Member also.0 other also.1 ≡ Member peer client seq = sym also.2 ∙ is in cc

    alive_start : Alive c s
    alive_start peer client seq is = (lent.lent c peer client seq is).lives

    takes_answered : (now token : ℕ) (m : Message) (x : Conn) → conn_at s c ≡ x → is_some (peer_in x) ≡ true → Answered s (takes now c token m x s) (if wants_reply m.request then m.seq ∷ [] else [])
    takes_answered now token m Absent is there = absurd (false≢true there)
    takes_answered now token m (Silent peer) is there = first_answered now peer m.seq m.request s lent.legal is
    takes_answered now token m (Member peer client seq) is there = by (is_waiting (state s) client) refl
      where
        by : (b : Bool) → is_waiting (state s) client ≡ b → Answered s (if b then meanwhile now c client seq m.request s else next now c peer client token m.seq m.request s) (if wants_reply m.request then m.seq ∷ [] else [])
        by true waits = meanwhile_answered now client seq m.seq m.request s at_start
        by false idle = next_answered now peer client token m.seq seq m.request s at_start is idle (lent.lent c peer client seq is).known

    served_answered : (supply : Supply) (now token : ℕ) (m : Option Message) → is_short supply ≡ false → is_open s c ≡ true → Answered s (served supply now c token m s) (seq_of m)
    served_answered Short now token m long there = absurd (true≢false long)
    served_answered Unread now token m long there = closed_answered now why.Memory s (seq_of m) lent.legal
    served_answered Enough now token None long there = closed_answered now why.NoRequest s [] lent.legal
    served_answered Enough now token (Some m) long there = takes_answered now token m (conn_at s c) refl there

    hears_answered : (supply : Supply) (now : ℕ) (sender : Sender) (bytes : List ℕ) (token : ℕ) (peer : Option Peer) → is_short supply ≡ false → is_some peer ≡ is_open s c → Answered s (hears supply now c sender bytes token peer s) (asked_by peer sender bytes)
    hears_answered supply now sender bytes token None long is = by_kept (kept_still c s at_start)
    hears_answered supply now sender bytes token (Some peer) long is = by (is_sender peer sender)
      where
        by : (b : Bool) → Answered s (if b then served supply now c token (decode bytes) s else closes now c why.AnotherSender s) (if b then seq_of (decode bytes) else [])
        by true = served_answered supply now token (decode bytes) long (sym is)
        by false = closed_answered now why.AnotherSender s [] lent.legal

    sent_answered : (supply : Supply) (now d : ℕ) (sender : Sender) (bytes : List ℕ) (token : ℕ) → is_short supply ≡ false → (b : Bool) → (d == c) ≡ b
        → Answered s (hears supply now d sender bytes token (peer_in (conn_at s d)) s) (if b then asked_by (peer_in (conn_at s c)) sender bytes else [])
    sent_answered supply now d sender bytes token long true same =
        subst (λ (k : ℕ). Answered s (hears supply now k sender bytes token (peer_in (conn_at s k)) s) (asked_by (peer_in (conn_at s c)) sender bytes)) (sym (eqb-true d c same))
        (hears_answered supply now sender bytes token (peer_in (conn_at s c)) long refl)
    sent_answered supply now d sender bytes token long false other =
        by_rest s (hears supply now d sender bytes token (peer_in (conn_at s d)) s)
        (hears_rest c now d other supply sender bytes token (peer_in (conn_at s d)) s (λ peer client seq is. (lent.lent d peer client seq is).role) alive_start at_start)

    -- a connection comes
    free_idle : (b : Bool) (pid euid : ℕ) → is_free s c ≡ b → (if b then new_bar s pid euid else Some why.BadNumber) ≡ None → is_open s c ≡ false
    free_idle false pid euid is none = absurd (none-some why.BadNumber (sym none))
    free_idle true pid euid is none = off (is_open s c) (and_parts (nat_lt c (length s.conns)) (not (is_open s c)) is).1
      where
        off : (b : Bool) → not b ≡ true → b ≡ false
        off true is = absurd (false≢true is)
        off false is = refl

    unless_answered : (pid : ℕ) (creds : Credentials) (o : Option Closing) → bar s c pid creds ≡ o → Answered s (connects_unless o c (record { pid = pid; creds = creds }) s) []
    unless_answered pid creds (Some why) is = by_kept (kept_says c s (outputs.Close c why) refl at_start)
    unless_answered pid creds None is =
        let idle = closed_waits (state s) (conn_at s c) (free_idle (is_free s c) pid creds.euid refl is) in record {
          kept = λ there. append-nil (waiting_on s c) ∙ idle ∙ sym (set_silent (state s) s.conns c (record { pid = pid; creds = creds }));
          gone = λ none. refl;
        }

    connects_answered : (now d pid : ℕ) (creds : Credentials) (b : Bool) → (d == c) ≡ b → Answered s (connects d pid creds s) []
    connects_answered now d pid creds true same = subst (λ (k : ℕ). Answered s (connects k pid creds s) []) (sym (eqb-true d c same))
        (by_if (not (nat_le (length creds.groups) groups_max)) (by_kept (kept_says c s (outputs.Close c why.TooManyGroups) refl at_start)) (unless_answered pid creds (bar s c pid creds) refl))
    connects_answered now d pid creds false other = by_kept (connects_kept c now d other pid creds s at_start)

    -- one ends
    left_answered : (now d : ℕ) (b : Bool) → (d == c) ≡ b → Answered s (leaves now d (conn_at s d) s) []
    left_answered now d true same = subst (λ (k : ℕ). Answered s (leaves now k (conn_at s k) s) []) (sym (eqb-true d c same))
        (let left = left_gone now (conn_at s c) s lent.legal in by_gone s (leaves now c (conn_at s c) s) [] left.0 left.1)
    left_answered now d false other = by_kept (leaves_kept c now d other (conn_at s d) s at_start)

    -- a process ends
    module _ (now pid : ℕ) where
      abbrev closed : Server
      closed = (closes_all pid s).server

      abbrev w : Went
      w = ends now pid s

      conn_there : conn_at closed c ≡ without (is_of (is_process pid)) (conn_at s c)
      conn_there = map_without (is_of (is_process pid)) refl s.conns c

      none_one : (b : Bool) (conn : ℕ) (rest : List Output) → answered_on c rest ≡ [] → answered_on c (closed_one b conn rest) ≡ []
      none_one true conn rest none = none
      none_one false conn rest none = none

      none_closed : (conn : ℕ) (cs : List Conn) → answered_on c (closed_from pid conn cs) ≡ []
      none_closed conn [] = refl
      none_closed conn (x ∷ xs) = none_one (is_of (is_process pid) x) conn (closed_from pid (conn + 1) xs) (none_closed (conn + 1) xs)

      told_ends : answered_on c w.outputs ≡ answered_on c (kills now pid (lead_of closed pid) closed).outputs
      told_ends = answered-append c (closed_from pid 0 s.conns) (kills now pid (lead_of closed pid) closed).outputs ∙ ap (λ (l : List ℕ). l ++ answered_on c (kills now pid (lead_of closed pid) closed).outputs) (none_closed 0 s.conns)

      ended_by : (b : Bool) → is_of (is_process pid) (conn_at s c) ≡ b → Answered s w []
      ended_by true its =
          let gone : conn_at closed c ≡ Absent = conn_there ∙ ap (λ (b : Bool). if b then Absent else conn_at s c) its in
          let kept = kills_kept c now pid (lead_of closed pid) closed (unlent_at closed lent.legal (ap is_member gone)) in
          by_gone s w [] (ap (λ (y : Conn). is_some (peer_in y)) (kept.conn ∙ gone))
          (told_ends ∙ first_none (answered_on c (kills now pid (lead_of closed pid) closed).outputs) (waiting_on w.server c) (sym (ap (λ (y : Conn). waiting_in (state closed) y) gone) ∙ kept.even))
      ended_by false other =
          let same : conn_at closed c ≡ conn_at s c = conn_there ∙ ap (λ (b : Bool). if b then Absent else conn_at s c) other in
          let at : At c closed = record { legal = lent.legal; own = λ peer client seq is. (let mine = at_start.own peer client seq (sym same ∙ is) in record { lent = mine.lent; alone = mine.alone }) } in
          let kept = kills_kept c now pid (lead_of closed pid) closed at in
          by_rest s w (record {
            conn = kept.conn ∙ same;
            even = sym (ap (λ (y : Conn). waiting_in (state closed) y) same) ∙ kept.even ∙ ap (λ (l : List ℕ). l ++ waiting_on w.server c) (sym told_ends);
          })

    serves_answered : (supply : Supply) (now : ℕ) (e : Event) → is_short supply ≡ false → Answered s (serves supply now e s) (asked_on s e c)
    serves_answered supply now (Connected d pid creds) long = connects_answered now d pid creds (d == c) refl
    serves_answered supply now (Sent d sender bytes token) long = sent_answered supply now d sender bytes token long (d == c) refl
    serves_answered supply now (Closed d) long = left_answered now d (d == c) refl
    serves_answered supply now (Mapped pid is_mapped) long = by_if is_mapped (by_kept (kept_still c s at_start)) (by_kept (executes_kept c now pid (lead_of s pid) s at_start))
    serves_answered supply now (Ended pid) long = ended_by now pid (is_of (is_process pid) (conn_at s c)) refl
    serves_answered supply now (ForkLost token) long = by_kept (dies_kept c now (child_of s token) s at_start)
    serves_answered supply now Tick long = by_if (is_due now (soonest (state s).parked)) (by_kept (kept_makes c now supervisor (calls.Interrupt 0) s refl at_start)) (by_kept (kept_still c s at_start))

    swept_answered : (w : Went) (asked : List ℕ) → Answered s w asked → Answered s (and_then w sweeps) asked
    swept_answered w asked answered =
        let same : answered_on c (w.outputs ++ (sweeps w.server).outputs) ≡ answered_on c w.outputs =
        answered-append c w.outputs (sweeps w.server).outputs ∙ ap (λ (l : List ℕ). answered_on c w.outputs ++ l) (none_dropped (filter (λ segment. not (is_in (state w.server) segment)) w.server.memory)) ∙ append-nil (answered_on c w.outputs) in record {
          kept = λ there. answered.kept there ∙ ap (λ (l : List ℕ). l ++ waiting_on w.server c) (sym same);
          gone = λ none. same ∙ answered.gone none;
        }

    pub step_answered : (supply : Supply) (now : ℕ) (e : Event) → is_short supply ≡ false → Answered s (step supply now e s) (asked_on s e c)
    step_answered supply now e long = swept_answered (serves supply now e s) (asked_on s e c) (serves_answered supply now e long)
