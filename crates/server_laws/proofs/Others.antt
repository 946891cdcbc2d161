-- What is done for other connections and processes leaves a connection as it was, but for the reply to its request that waits.
use Rattle.std.proofs.Common.{◌≡◌, ℕ, ◌+◌, Bool, true, false, cond, List, [], ◌∷◌, ◌++◌, Option, Some, None, Ok, Err, length, refl, sym, ap, ◌∙◌, append_assoc}
use Rattle.std.specs.Prelude.{◌&&◌, ◌==◌, nat_le, not, if◌then◌else◌, slice_index_or}
use Rattle.std.specs.List.{find, list_any}
use Rattle.std.proofs.lemmas.Bool.{and_parts, eqb-true, false≢true, true≢false}
use Rattle.std.proofs.lemmas.Option.{none-some, same_Some}
use Rattle.ipc_call.specs.declared.calls.Call.{Call}
use Rattle.ipc_call.specs.declared.calls.Call.TheVariants as calls
use Rattle.ipc_call.specs.declared.replies.Answer.{Answer}
use Rattle.ipc_call.specs.declared.replies.Answer.TheVariants.{Attached}
use Rattle.ipc_creds.specs.Credentials.{Credentials, groups_max}
use Rattle.ipc_model.specs.Decision.{Outcome}
use Rattle.ipc_model.specs.State.{creds_at, has_exited, is_waiting, process_at}
use Rattle.ipc_server.specs.declared.outputs.Closing.{Closing}
use Rattle.ipc_server.specs.declared.outputs.Closing.TheVariants as why
use Rattle.ipc_server.specs.declared.outputs.Output.TheVariants as outputs
use Rattle.ipc_server.specs.declared.outputs.Pass.TheVariants as pass
use Rattle.ipc_server.specs.declared.peers.Conn.{Conn}
use Rattle.ipc_server.specs.declared.peers.Conn.TheVariants.{Absent, Silent, Member}
use Rattle.ipc_server.specs.declared.peers.Peer.{Peer}
use Rattle.ipc_server.specs.declared.peers.Role.{Role}
use Rattle.ipc_server.specs.declared.peers.Role.TheVariants.{Free, Lead, Lent, Child}
use Rattle.ipc_server.specs.declared.peers.Sender.{Sender}
use Rattle.ipc_server.specs.declared.peers.Supply.{Supply}
use Rattle.ipc_server.specs.declared.peers.Supply.TheVariants.{Enough, Short, Unread}
use Rattle.ipc_server.specs.Going.{Went, and_then, stays}
use Rattle.ipc_server.specs.Lives.{announces, bar, begins, closes, comes_forth, connects, connects_unless, departs, departs_if, dies, enters, executes, fork_bar, forks_unless, grows_up, has_attached, has_room, hello, hindered, identity_of, interrupts, is_begun, is_grown_up, is_member_of, joins, kills, leaves, lends, member_in, more_of, pid_of_child, supervisor, wonders}
use Rattle.ipc_server.specs.Looks.{look_told}
use Rattle.ipc_server.specs.Making.{answers_told, applies, attached_by, attached_reply, made, makes, may_make, own_told, passes, reply, result, says_told, size_of, under, with_memory}
use Rattle.ipc_server.specs.Servers.{Server, child_of, clients_of, conn_at, free_after, free_client, free_from, from_on, has_token, is_named, lead_of, lives, role_at, state, with_conn, with_role}
use Rattle.ipc_server.specs.Steps.{first, hears, is_sender, meanwhile, next, served, takes}
use Rattle.ipc_space.proofs.Balance.{ends_of}
use Rattle.ipc_space.specs.Spaces.{own_reply}
use Rattle.ipc_wire.specs.Calls.{call_of}
use Rattle.ipc_wire.specs.Requests.{decode}
use Rattle.ipc_wire.specs.declared.requests.Message.{Message}
use Rattle.ipc_wire.specs.declared.requests.Request.{Request}
use Rattle.ipc_wire.specs.declared.requests.Request.TheVariants.{Hello, Cancel, Fork, Calls, Looks}
use Rattle.ipc_wire.specs.declared.told.Hindrance.{Hindrance}
use Rattle.ipc_wire.specs.declared.told.Hindrance.TheVariants as hindrance
use Rattle.ipc_wire.specs.declared.told.Told.TheVariants as told
use Rattle.shm_seg.specs.Attachments.{attachment_at}
use Rattle.shm_seg.specs.declared.attachments.Attachment.{Attachment}
use Rattle.server_laws.specs.Telling.{answered_on, waiting_on}
use Rattle.server_laws.proofs.Counts.{one}
use Rattle.server_laws.proofs.Kept.{Apart, At, Kept, answered-append, at_made, even_applied, kept_if, kept_makes, kept_memory, kept_says, kept_sets, kept_still, kept_then, kept_turns, lent_to, seq_apart}
use Rattle.server_laws.proofs.Moves.{conns_kept}
use Rattle.server_laws.proofs.Waiting.{even_other}

-- who is found passes
pub found_passes : (p : ℕ → Bool) (xs : List ℕ) (k : ℕ) → find p xs ≡ Some k → p k ≡ true
found_passes p [] k is = absurd (none-some k is)
found_passes p (x ∷ xs) k is = by (p x) refl is (found_passes p xs k)
  where
    by : (b : Bool) → p x ≡ b → cond b (Some x) (find p xs) ≡ Some k → (find p xs ≡ Some k → p k ≡ true) → p k ≡ true
    by true passes is rest = ap p (sym (same_Some x k is)) ∙ passes
    by false fails is rest = rest is

pub free_ended : (s : Server) (from k : ℕ) → free_from from s ≡ Some k → has_exited (state s) k ≡ true
free_ended s from k is = found_passes (has_exited (state s)) (from_on from s) k is

pub after_ended : (s : Server) (first : Option ℕ) (k : ℕ) → free_after first s ≡ Some k → has_exited (state s) k ≡ true
after_ended s None k is = absurd (none-some k is)
after_ended s (Some client) k is = free_ended s (client + 1) k is

pub child_named : (s : Server) (token k : ℕ) → child_of s token ≡ Some k → has_token token (role_at s k) ≡ true
child_named s token k is = (and_parts (lives s k) (has_token token (role_at s k)) (found_passes (is_named s token) (clients_of s) k is)).1

module _ (c : ℕ) where
  -- its client lives
  abbrev pub Alive : Server → Type 0
  Alive s = (peer : Peer) (client seq : ℕ) → conn_at s c ≡ Member peer client seq → has_exited (state s) client ≡ false

  pub apart_ended : (s : Server) (k : ℕ) → Alive s → has_exited (state s) k ≡ true → Apart c s k
  apart_ended s k alive ended peer client seq is same = true≢false (sym ended ∙ ap (λ (o : ℕ). has_exited (state s) o) (sym same) ∙ alive peer client seq is)

  named_not : (token : ℕ) (r : Role) → has_token token r ≡ true → lent_to c r ≡ false
  named_not token Free named = absurd (false≢true named)
  named_not token Lead named = absurd (false≢true named)
  named_not token (Lent conn) named = absurd (false≢true named)
  named_not token (Child own euid) named = refl

  pub apart_child : (s : Server) (token k : ℕ) → At c s → has_token token (role_at s k) ≡ true → Apart c s k
  apart_child s token k at named peer client seq is same =
      true≢false (sym (at.own peer client seq is).lent ∙ ap (λ (o : ℕ). lent_to c (role_at s o)) same ∙ named_not token (role_at s k) named)

  apart_later : (s t : Server) (k : ℕ) → conn_at t c ≡ conn_at s c → Apart c s k → Apart c t k
  apart_later s t k same apart peer client seq is = apart peer client seq (sym same ∙ is)

  same_made : (now client : ℕ) (call : Call) (s : Server) → conn_at (makes now client call s).server c ≡ conn_at s c
  same_made now client call s = ap (λ cs. slice_index_or cs c Absent) (conns_kept now client call s)

  -- what doesn't depend on the connection that it is for
  pub interrupts_kept : (now client : ℕ) (s : Server) → At c s → Kept c s (interrupts now client s)
  interrupts_kept now client s at = kept_if c (is_waiting (state s) client) (kept_makes c now supervisor (calls.InterruptThread client) s refl at) (kept_still c s at)

  wonders_kept : (pid : ℕ) (lead : Option ℕ) (s : Server) → At c s → Kept c s (wonders pid lead s)
  wonders_kept pid None s at = kept_still c s at
  wonders_kept pid (Some lead) s at = kept_if c (not (list_any (is_member_of pid) s.conns) && has_attached s lead) (kept_says c s (outputs.Ask pid) refl at) (kept_still c s at)

  departs_kept : (now pid client : ℕ) (s : Server) → At c s → Kept c s (departs now pid client s)
  departs_kept now pid client s at =
      let t = (interrupts now client s).server in
      let u = (makes now client calls.Exit t).server in
      kept_then c (interrupts_kept now client s at) (λ at. kept_then c (kept_makes c now client calls.Exit t refl at) (λ at. wonders_kept pid (lead_of u pid) u at))

  pub departs_if_kept : (now : ℕ) (member : Option (ℕ × ℕ)) (s : Server) → At c s → Kept c s (departs_if now member s)
  departs_if_kept now None s at = kept_still c s at
  departs_if_kept now (Some member) s at = departs_kept now member.0 member.1 s at

  pub kills_kept : (now pid : ℕ) (lead : Option ℕ) (s : Server) → At c s → Kept c s (kills now pid lead s)
  kills_kept now pid None s at = kept_still c s at
  kills_kept now pid (Some lead) s at = kept_makes c now supervisor (calls.Kill pid) s refl at

  pub dies_kept : (now : ℕ) (child : Option ℕ) (s : Server) → At c s → Kept c s (dies now child s)
  dies_kept now None s at = kept_still c s at
  dies_kept now (Some child) s at = kept_makes c now supervisor (calls.Kill (pid_of_child child)) s refl at

  pub executes_kept : (now pid : ℕ) (lead : Option ℕ) (s : Server) → At c s → Kept c s (executes now pid lead s)
  executes_kept now pid None s at = kept_still c s at
  executes_kept now pid (Some lead) s at = kept_if c (list_any (is_member_of pid) s.conns) (kept_still c s at) (kept_makes c now lead calls.Exec s refl at)

  -- a process begins, shows up, and a connection of another number is let in
  pub founded_kept : (now : ℕ) (lead pid : ℕ) (peer : Peer) (s : Server) → Apart c s lead → At c s
      → Kept c s (and_then (makes now lead (calls.Begin pid (identity_of peer.creds)) s) (λ s. stays (with_role s lead Lead)))
  founded_kept now lead pid peer s apart at =
      let begin = calls.Begin pid (identity_of peer.creds) in
      let t = (makes now lead begin s).server in
      kept_then c (kept_makes c now lead begin s refl at) (λ at. kept_turns c t lead Lead (apart_later s t lead (same_made now lead begin s) apart) refl at)

  pub shown_kept : (now child pid : ℕ) (peer : Peer) (s : Server) → Apart c s child → At c s
      → Kept c s (and_then (makes now child (calls.Name pid) s) (λ s. and_then (makes now child (calls.Assume (identity_of peer.creds)) s) (λ s. stays (with_role s child Lead))))
  shown_kept now child pid peer s apart at =
      let t = (makes now child (calls.Name pid) s).server in
      let assume = calls.Assume (identity_of peer.creds) in
      let u = (makes now child assume t).server in
      kept_then c (kept_makes c now child (calls.Name pid) s refl at) (λ at.
      kept_then c (kept_makes c now child assume t refl at) (λ at.
      kept_turns c u child Lead (apart_later s u child (same_made now child assume t ∙ same_made now child (calls.Name pid) s) apart) refl at))

  pub cloned_kept : (now lead client : ℕ) (peer : Peer) (s : Server) → At c s
      → Kept c s (and_then (makes now lead (calls.Clone client) s) (makes now client (calls.Assume (identity_of peer.creds))))
  cloned_kept now lead client peer s at =
      let t = (makes now lead (calls.Clone client) s).server in
      kept_then c (kept_makes c now lead (calls.Clone client) s refl at) (λ at. kept_makes c now client (calls.Assume (identity_of peer.creds)) t refl at)

  pub cloned_same : (now lead client : ℕ) (peer : Peer) (s : Server)
      → conn_at (makes now client (calls.Assume (identity_of peer.creds)) (makes now lead (calls.Clone client) s).server).server c ≡ conn_at s c
  cloned_same now lead client peer s =
      same_made now client (calls.Assume (identity_of peer.creds)) (makes now lead (calls.Clone client) s).server ∙ same_made now lead (calls.Clone client) s

  -- it stays, and is told no more than waits on it
  pub record Rests (s : Server) (w : Went) : Type 0 where
    pub conn : conn_at w.server c ≡ conn_at s c
    pub even : waiting_on s c ≡ answered_on c w.outputs ++ waiting_on w.server c

  pub rests_kept : {s : Server} {w : Went} → Kept c s w → Rests s w
  rests_kept kept = record { conn = kept.conn; even = kept.even }

  pub rests_if : {s : Server} {v w : Went} (b : Bool) → Rests s v → Rests s w → Rests s (if b then v else w)
  rests_if true m n = m
  rests_if false m n = n

  module _ (now d : ℕ) (other : (d == c) ≡ false) where
    pub leaves_kept : (x : Conn) (s : Server) → At c s → Kept c s (leaves now d x s)
    leaves_kept x s at = kept_then c (kept_sets c s d Absent other at) (λ at. departs_if_kept now (member_in x) (with_conn s d Absent) at)

    pub closes_kept : (why : Closing) (s : Server) → At c s → Kept c s (closes now d why s)
    closes_kept why s at = kept_then c (kept_says c s (outputs.Close d why) refl at) (λ at. leaves_kept (conn_at s d) s at)

    unless_kept : (pid : ℕ) (creds : Credentials) (s : Server) (o : Option Closing) → At c s → Kept c s (connects_unless o d (record { pid = pid; creds = creds }) s)
    unless_kept pid creds s (Some why) at = kept_says c s (outputs.Close d why) refl at
    unless_kept pid creds s None at = kept_sets c s d (Silent (record { pid = pid; creds = creds })) other at

    pub connects_kept : (pid : ℕ) (creds : Credentials) (s : Server) → At c s → Kept c s (connects d pid creds s)
    connects_kept pid creds s at = kept_if c (not (nat_le (length creds.groups) groups_max)) (kept_says c s (outputs.Close d why.TooManyGroups) refl at) (unless_kept pid creds s (bar s d pid creds) at)

    hindered_kept : (seq : ℕ) (why : Hindrance) (s : Server) → At c s → Kept c s (hindered d seq why s)
    hindered_kept seq why s at = kept_says c s (reply d seq (told.Hindered why)) (seq_apart c d seq (told.Hindered why) pass.Nothing other) at

    module _ (peer : Peer) (seq : ℕ) where
      lends_kept : (lead client : ℕ) (s : Server) → Apart c s client → At c s → Kept c s (lends now d peer seq lead client s)
      lends_kept lead client s apart at =
          let t = (makes now lead (calls.Clone client) s).server in
          let assume = calls.Assume (identity_of peer.creds) in
          let u = (makes now client assume t).server in
          let there = with_conn u d (Member peer client seq) in
          let lent = with_role there client (Lent d) in
          kept_then c (kept_makes c now lead (calls.Clone client) s refl at) (λ at.
          kept_then c (kept_makes c now client assume t refl at) (λ at.
          kept_then c (kept_sets c u d (Member peer client seq) other at) (λ next.
          kept_then c (kept_turns c there client (Lent d) (apart_later s there client ((kept_sets c u d (Member peer client seq) other at).conn ∙ cloned_same now lead client peer s) apart) other next) (λ at.
          kept_says c lent (reply d seq (told.Client client)) (seq_apart c d seq (told.Client client) pass.Nothing other) at))))

      joins_kept : (lead : ℕ) (client : Option ℕ) (s : Server) → ((k : ℕ) → client ≡ Some k → Apart c s k) → At c s → Kept c s (joins now d peer seq lead client s)
      joins_kept lead None s apart at = hindered_kept seq hindrance.NoClientLeft s at
      joins_kept lead (Some client) s apart at = kept_if c (has_room s peer.creds.euid 1) (lends_kept lead client s (apart client refl) at) (hindered_kept seq hindrance.TooManyOfUser s at)

      begun_kept : (lead client : ℕ) (s : Server) → Apart c s lead → Apart c s client → At c s → Kept c s (is_begun now d peer seq lead client s)
      begun_kept lead client s first next at =
          let founded = founded_kept now lead peer.pid peer s first at in
          let t = with_role (makes now lead (calls.Begin peer.pid (identity_of peer.creds)) s).server lead Lead in
          kept_then c founded (λ at. lends_kept lead client t (apart_later s t client founded.conn next) at)

      begins_kept : (lead client : Option ℕ) (s : Server) → ((k : ℕ) → lead ≡ Some k → Apart c s k) → ((k : ℕ) → client ≡ Some k → Apart c s k) → At c s → Kept c s (begins now d peer seq lead client s)
      begins_kept (Some lead) (Some client) s first next at = kept_if c (has_room s peer.creds.euid 2) (begun_kept lead client s (first lead refl) (next client refl) at) (hindered_kept seq hindrance.TooManyOfUser s at)
      begins_kept (Some lead) None s first next at = hindered_kept seq hindrance.NoClientLeft s at
      begins_kept None client s first next at = hindered_kept seq hindrance.NoClientLeft s at

      free_apart : (s : Server) → Alive s → (k : ℕ) → free_client s ≡ Some k → Apart c s k
      free_apart s alive k is = apart_ended s k alive (free_ended s 0 k is)

      after_apart : (s : Server) → Alive s → (k : ℕ) → free_after (free_client s) s ≡ Some k → Apart c s k
      after_apart s alive k is = apart_ended s k alive (after_ended s (free_client s) k is)

      enters_kept : (lead : Option ℕ) (s : Server) → Alive s → At c s → Kept c s (enters now d peer seq lead s)
      enters_kept (Some lead) s alive at = joins_kept lead (free_client s) s (free_apart s alive) at
      enters_kept None s alive at = begins_kept (free_client s) (free_after (free_client s) s) s (free_apart s alive) (after_apart s alive) at

      grown_kept : (child client : ℕ) (s : Server) → Apart c s child → Apart c s client → At c s → Kept c s (is_grown_up now d peer seq child client s)
      grown_kept child client s first next at =
          let shown = shown_kept now child peer.pid peer s first at in
          let named = (makes now child (calls.Name peer.pid) s).server in
          let t = with_role (makes now child (calls.Assume (identity_of peer.creds)) named).server child Lead in
          kept_then c shown (λ at. lends_kept child client t (apart_later s t client shown.conn next) at)

      grows_kept : (child : ℕ) (client : Option ℕ) (s : Server) → Apart c s child → ((k : ℕ) → client ≡ Some k → Apart c s k) → At c s → Kept c s (grows_up now d peer seq child client s)
      grows_kept child None s first next at = hindered_kept seq hindrance.NoClientLeft s at
      grows_kept child (Some client) s first next at = kept_if c (has_room s peer.creds.euid (more_of (creds_at (state s) child).euid peer.creds.euid))
          (grown_kept child client s first (next client refl) at) (hindered_kept seq hindrance.TooManyOfUser s at)

      forth_kept : (child lead : Option ℕ) (s : Server) → ((k : ℕ) → child ≡ Some k → Apart c s k) → Alive s → At c s → Kept c s (comes_forth now d peer seq child lead s)
      forth_kept (Some child) None s named alive at = grows_kept child (free_client s) s (named child refl) (free_apart s alive) at
      forth_kept (Some child) (Some lead) s named alive at = closes_kept why.BadToken s at
      forth_kept None lead s named alive at = closes_kept why.BadToken s at

      hello_kept : (version token : ℕ) (s : Server) → Alive s → At c s → Kept c s (hello now d peer seq version token s)
      hello_kept version token s alive at = kept_if c (not (version == 1)) (closes_kept why.BadVersion s at)
          (kept_if c (token == 0) (enters_kept (lead_of s peer.pid) s alive at)
          (forth_kept (child_of s token) (lead_of s peer.pid) s (λ k is. apart_child s token k at (child_named s token k is)) alive at))

      first_kept : (request : Request) (s : Server) → Alive s → At c s → Kept c s (first now d peer seq request s)
      first_kept (Hello version token) s alive at = hello_kept version token s alive at
      first_kept (Cancel number) s alive at = closes_kept why.OutOfTurn s at
      first_kept Fork s alive at = closes_kept why.OutOfTurn s at
      first_kept (Calls ask) s alive at = closes_kept why.OutOfTurn s at
      first_kept (Looks look) s alive at = closes_kept why.OutOfTurn s at

    announces_kept : (euid seq token : ℕ) (lead child : Option ℕ) (s : Server) → ((k : ℕ) → child ≡ Some k → Apart c s k) → At c s → Kept c s (announces now d euid seq token lead child s)
    announces_kept euid seq token (Some lead) (Some child) s apart at =
        let fork = calls.Fork child (pid_of_child child) in
        let forked = (makes now lead fork s).server in
        kept_then c (kept_makes c now lead fork s refl at) (λ at.
        kept_then c (kept_turns c forked child (Child token euid) (apart_later s forked child (same_made now lead fork s) (apart child refl)) refl at) (λ at.
        kept_says c (with_role forked child (Child token euid)) (outputs.Reply d seq (told.Token token) (pass.Fork token)) (seq_apart c d seq (told.Token token) (pass.Fork token) other) at))
    announces_kept euid seq token (Some lead) None s apart at = hindered_kept seq hindrance.NoClientLeft s at
    announces_kept euid seq token None child s apart at = hindered_kept seq hindrance.NoClientLeft s at

    forks_kept : (o : Option Hindrance) (pid euid seq token : ℕ) (s : Server) → Alive s → At c s → Kept c s (forks_unless o now d pid euid seq token s)
    forks_kept (Some why) pid euid seq token s alive at = hindered_kept seq why s at
    forks_kept None pid euid seq token s alive at = announces_kept euid seq token (lead_of s pid) (free_client s) s (λ k is. apart_ended s k alive (free_ended s 0 k is)) at

    -- a call of the other connection's client
    module _ (client seq : ℕ) (call : Call) (s : Server) (at : At c s) (lent : role_at s client ≡ Lent d) where
      abbrev t : Server
      t = made now client call s

      turns : may_make s client ≡ true → (r : ℕ) → lent_to c (role_at s r) ≡ true → one (is_waiting (state t) r) + ends_of r (result now client call s).ended ≡ one (is_waiting (state s) r)
      turns may r mine = by (client == r) refl
        where
          by : (b : Bool) → (client == r) ≡ b → one (is_waiting (state t) r) + ends_of r (result now client call s).ended ≡ one (is_waiting (state s) r)
          by true same = absurd (true≢false (sym mine ∙ ap (λ (k : ℕ). lent_to c (role_at s k)) (sym (eqb-true client r same)) ∙ ap (λ (x : Role). lent_to c x) lent ∙ other))
          by false apart = even_other s now client call at.legal may r apart

      number_kept : (number : ℕ) (o : Option Attachment) → At c t → Kept c t (passes d seq number o t)
      number_kept number None now_at = kept_says c t (reply d seq (told.Granted (Attached number) 0)) (seq_apart c d seq (told.Granted (Attached number) 0) pass.Nothing other) now_at
      number_kept number (Some a) now_at =
          kept_then c (kept_memory c t a.segment now_at) (λ later.
          kept_says c (with_memory a.segment t).server (attached_reply d seq number a t) (seq_apart c d seq (told.Granted (Attached number) (size_of t a.segment)) (pass.Memory a.segment (not a.is_read_only)) other) later)

      answer_kept : (answer : Answer) → At c t → Kept c t (says_told d client seq (told.Granted answer 0) (attached_by answer) t)
      answer_kept (Attached number) now_at = number_kept number (attachment_at (state t).shared.attached (process_at (state t) client) number) now_at
      answer_kept answer now_at = kept_says c t (reply d seq (told.Granted answer 0)) (seq_apart c d seq (told.Granted answer 0) pass.Nothing other) now_at

      own_kept : (o : Option Outcome) → At c t → Kept c t (answers_told d client seq (own_reply (length s.history.events + 1) o) t)
      own_kept None now_at = kept_sets c t d (under seq (conn_at t d)) other now_at
      own_kept (Some (Ok answer)) now_at = answer_kept answer now_at
      own_kept (Some (Err rule)) now_at = kept_says c t (reply d seq (told.Refused rule)) (seq_apart c d seq (told.Refused rule) pass.Nothing other) now_at

      asks_rest : (b : Bool) → may_make s client ≡ b → Rests s (if b then and_then (applies now client call s) (answers_told d client seq (own_told now client call s)) else stays s)
      asks_rest true may =
          let first = even_applied c s now client call at may (turns may) in
          let told = (applies now client call s).outputs in
          let next = own_kept (result now client call s).own (at_made c s now client call at may (turns may)) in
          let w = answers_told d client seq (own_told now client call s) t in record {
            conn = next.conn;
            even = first ∙ ap (λ (l : List ℕ). answered_on c told ++ l) next.even
                ∙ sym (append_assoc (answered_on c told) (answered_on c w.outputs) (waiting_on w.server c))
                ∙ ap (λ (l : List ℕ). l ++ waiting_on w.server c) (sym (answered-append c told w.outputs));
          }
      asks_rest false may = rests_kept (kept_still c s at)

    -- a message of the other connection
    meanwhile_kept : (client seq : ℕ) (request : Request) (s : Server) → At c s → Kept c s (meanwhile now d client seq request s)
    meanwhile_kept client seq (Cancel number) s at = kept_if c (number == seq) (interrupts_kept now client s at) (kept_still c s at)
    meanwhile_kept client seq (Hello version token) s at = closes_kept why.TwoRequests s at
    meanwhile_kept client seq Fork s at = closes_kept why.TwoRequests s at
    meanwhile_kept client seq (Calls ask) s at = closes_kept why.TwoRequests s at
    meanwhile_kept client seq (Looks look) s at = closes_kept why.TwoRequests s at

    next_rest : (peer : Peer) (client token seq : ℕ) (request : Request) (s : Server) → role_at s client ≡ Lent d → Alive s → At c s → Rests s (next now d peer client token seq request s)
    next_rest peer client token seq (Hello version number) s lent alive at = rests_kept (closes_kept why.OutOfTurn s at)
    next_rest peer client token seq (Cancel number) s lent alive at = rests_kept (kept_still c s at)
    next_rest peer client token seq Fork s lent alive at = rests_kept (forks_kept (fork_bar s peer.creds.euid token) peer.pid peer.creds.euid seq token s alive at)
    next_rest peer client token seq (Calls ask) s lent alive at = asks_rest client seq (call_of ask) s at lent (may_make s client) refl
    next_rest peer client token seq (Looks look) s lent alive at = rests_kept (kept_says c s (reply d seq (look_told s peer look)) (seq_apart c d seq (look_told s peer look) pass.Nothing other) at)

    takes_rest : (token : ℕ) (m : Message) (x : Conn) (s : Server) → ((peer : Peer) (client seq : ℕ) → x ≡ Member peer client seq → role_at s client ≡ Lent d) → Alive s → At c s → Rests s (takes now d token m x s)
    takes_rest token m Absent s lent alive at = rests_kept (kept_still c s at)
    takes_rest token m (Silent peer) s lent alive at = rests_kept (first_kept peer m.seq m.request s alive at)
    takes_rest token m (Member peer client seq) s lent alive at =
        rests_if (is_waiting (state s) client) (rests_kept (meanwhile_kept client seq m.request s at)) (next_rest peer client token m.seq m.request s (lent peer client seq refl) alive at)

    served_rest : (supply : Supply) (token : ℕ) (m : Option Message) (s : Server) → ((peer : Peer) (client seq : ℕ) → conn_at s d ≡ Member peer client seq → role_at s client ≡ Lent d) → Alive s → At c s → Rests s (served supply now d token m s)
    served_rest Unread token m s lent alive at = rests_kept (closes_kept why.Memory s at)
    served_rest Enough token None s lent alive at = rests_kept (closes_kept why.NoRequest s at)
    served_rest Short token None s lent alive at = rests_kept (closes_kept why.NoRequest s at)
    served_rest Enough token (Some m) s lent alive at = takes_rest token m (conn_at s d) s lent alive at
    served_rest Short token (Some m) s lent alive at = rests_kept (hindered_kept m.seq hindrance.Memory s at)

    pub hears_rest : (supply : Supply) (sender : Sender) (bytes : List ℕ) (token : ℕ) (peer : Option Peer) (s : Server) → ((peer : Peer) (client seq : ℕ) → conn_at s d ≡ Member peer client seq → role_at s client ≡ Lent d) → Alive s → At c s
        → Rests s (hears supply now d sender bytes token peer s)
    hears_rest supply sender bytes token None s lent alive at = rests_kept (kept_still c s at)
    hears_rest supply sender bytes token (Some peer) s lent alive at =
        rests_if (is_sender peer sender) (served_rest supply token (decode bytes) s lent alive at) (rests_kept (closes_kept why.AnotherSender s at))
