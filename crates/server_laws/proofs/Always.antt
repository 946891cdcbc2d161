-- Whatever comes, a server is so.
use Rattle.std.proofs.Common.{◌≡◌, ◌≢◌, ℕ, zero, suc, ◌+◌, ◌-◌, ◌<◌, ◌≤◌, Bool, true, false, cond, List, Option, Some, None, Ok, Err, length, refl, sym, ap, ◌∙◌, arith, subst}
use Rattle.std.specs.Prelude.{◌==◌, not, is_some, if◌then◌else◌}
use Rattle.std.specs.List.{find, list_any, range_with_len}
use Rattle.std.proofs.lemmas.Bool.{eq-eqb, eqb-true, true≢false}
use Rattle.std.proofs.lemmas.List.{get_or-set_other}
use Rattle.std.proofs.lemmas.Option.{none-some, same_Some}
use Rattle.ipc_call.specs.declared.calls.Call.{Call}
use Rattle.ipc_call.specs.declared.calls.Call.TheVariants as calls
use Rattle.ipc_call.specs.declared.replies.Answer.{Answer}
use Rattle.ipc_call.specs.declared.replies.Answer.TheVariants.{Attached}
use Rattle.ipc_model.specs.Decision.{Outcome}
use Rattle.ipc_model.specs.State.{creds_at, has_exited, is_waiting, process_at}
use Rattle.ipc_namespace.specs.Looking.{soonest}
use Rattle.ipc_server.specs.declared.peers.Conn.{Conn}
use Rattle.ipc_server.specs.declared.peers.Conn.TheVariants.{Absent, Silent, Member}
use Rattle.ipc_server.specs.declared.peers.Peer.{Peer}
use Rattle.ipc_server.specs.declared.peers.Role.TheVariants.{Child}
use Rattle.ipc_server.specs.declared.peers.Sender.{Sender}
use Rattle.ipc_server.specs.declared.peers.Supply.{Supply}
use Rattle.ipc_server.specs.declared.peers.Supply.TheVariants.{Enough, Short, Unread}
use Rattle.ipc_server.specs.Going.{Went, and_then, stays}
use Rattle.ipc_server.specs.Lives.{announces, begins, comes_forth, enters, fork_bar, forks_unless, grows_up, has_room, hello, interrupts, joins, more_of}
use Rattle.ipc_server.specs.Making.{answers_told, applies, asks, attached_by, made, makes, may_make, own_told, passes, result, says_told, sweeps, under}
use Rattle.ipc_server.specs.Servers.{Server, child_of, conn_at, free_after, free_client, free_from, is_child, lead_of, peer_in, role_at, state, with_conn}
use Rattle.ipc_server.specs.Steps.{Closed, Connected, Ended, Event, ForkLost, Mapped, Sent, Tick, first, hears, is_due, is_sender, meanwhile, next, served, serves, step, takes}
use Rattle.ipc_space.specs.Spaces.{own_reply}
use Rattle.ipc_wire.specs.Calls.{call_of}
use Rattle.ipc_wire.specs.Requests.{decode}
use Rattle.ipc_wire.specs.declared.requests.Ask.{Ask}
use Rattle.ipc_wire.specs.declared.requests.Ask.TheVariants as wire
use Rattle.ipc_wire.specs.declared.requests.Message.{Message}
use Rattle.ipc_wire.specs.declared.requests.Request.{Request}
use Rattle.ipc_wire.specs.declared.requests.Request.TheVariants.{Hello, Cancel, Fork, Calls, Looks}
use Rattle.ipc_wire.specs.declared.told.Hindrance.{Hindrance}
use Rattle.ipc_wire.specs.declared.told.Told.TheVariants as told
use Rattle.shm_seg.specs.Attachments.{attachment_at}
use Rattle.shm_seg.specs.declared.attachments.Attachment.{Attachment}
use Rattle.life_laws.specs.Lives.{takes_creds}
use Rattle.server_laws.specs.Ends.{IsKnown, is_end_of}
use Rattle.server_laws.proofs.Begun.{IsLead, begun_good, found_lead, grown_good, ord_announced, role_announced, step_announced, went_announced, led_announced}
use Rattle.server_laws.proofs.Conns.{set_here}
use Rattle.server_laws.proofs.Counts.{one}
use Rattle.server_laws.proofs.Killed.{IsChild, connects_good, dies_good, ends_good, executes_good, found_child}
use Rattle.server_laws.proofs.Memory.{holding}
use Rattle.server_laws.proofs.Order.{IsKind, IsLeft, IsMember, IsPeer, Ord, k_child, k_first, k_lead, k_lent, none, only_not, step_made, step_makes}
use Rattle.server_laws.proofs.Ordering.{Good, IsNoMore, good_step, good_then, left_good, lends_good, GoodBut}
use Rattle.server_laws.proofs.Others.{free_ended}
use Rattle.server_laws.proofs.Waiting.{even_other, one_true}

-- what an event makes of the announced forks: none more, or one where that may be
pub data Grows (s t : Server) : Type 0 where
  none_more : IsNoMore s t → Grows s t
  one_more : (child token euid : ℕ) → fork_bar s euid token ≡ None
      → ((r : ℕ) → r ≢ child → has_exited (state t) r ≡ false → is_child (role_at t r) ≡ true → (has_exited (state s) r ≡ false) × (role_at t r ≡ role_at s r))
      → role_at t child ≡ Child token euid → Grows s t

pub record Fine (D : ℕ → Bool) (s t : Server) : Type 0 where
  pub ord : Ord none t
  pub grows : Grows s t
  pub led : (pid : ℕ) → D pid ≡ false → IsKnown s pid → IsKnown t pid

fine : {D : ℕ → Bool} {s t : Server} → GoodBut D s t → Fine D s t
fine good = record { ord = good.ord; grows = none_more good.grew; led = good.led }

fine_too : (D : ℕ → Bool) {s t : Server} → Fine none s t → Fine D s t
fine_too D f = record { ord = f.ord; grows = f.grows; led = λ pid other known. f.led pid refl known }

good_nothing : (s : Server) → Ord none s → Good s s
good_nothing s o = good_step s s (record { ord = o; lives = λ r out. refl; pids = λ r out. refl; roles = λ r out. refl })

good_if : {s : Server} (v w : Went) (b : Bool) → Good s v.server → Good s w.server → Good s (if b then v else w).server
good_if v w true m n = m
good_if v w false m n = n

fine_if : {s : Server} (v w : Went) (b : Bool) → Fine none s v.server → Fine none s w.server → Fine none s (if b then v else w).server
fine_if v w true m n = m
fine_if v w false m n = n

-- A CALL OF A CONNECTION

ask_leaves : (ask : Ask) (s : Server) (k r : ℕ) → IsLeft s.history k (call_of ask) r
ask_leaves (wire.SemTimedOp id opers None) s k r = (refl, refl, refl, refl)
ask_leaves (wire.SemTimedOp id opers (Some timeout)) s k r = (refl, refl, refl, refl)
ask_leaves ask s k r = (refl, refl, refl, refl)

ask_apart : (ask : Ask) (k : ℕ) → takes_creds k (call_of ask) 0 ≡ false
ask_apart (wire.SemTimedOp id opers None) k = refl
ask_apart (wire.SemTimedOp id opers (Some timeout)) k = refl
ask_apart ask k = refl

-- the number of a request that waits
module _ (t : Server) (o : Ord none t) (conn : ℕ) (peer : Peer) (client before seq : ℕ) (there : conn_at t conn ≡ Member peer client before) where
  abbrev renumbered : Server
  renumbered = with_conn t conn (Member peer client seq)

  now_here : conn_at renumbered conn ≡ Member peer client seq
  now_here = set_here t.conns conn (Member peer client seq) (ap (λ (y : Conn). is_some (peer_in y)) there)

  elsewhere : (d : ℕ) → (d == conn) ≡ false → conn_at renumbered d ≡ conn_at t d
  elsewhere d other = get_or-set_other t.conns conn d (Member peer client seq) Absent (λ same. true≢false (sym (eq-eqb d conn same) ∙ other))

  -- each has the same client as before
  was_there : (d : ℕ) (p : Peer) (r n : ℕ) → conn_at renumbered d ≡ Member p r n → (b : Bool) → (d == conn) ≡ b → (m : ℕ) × (conn_at t d ≡ Member p r m)
  was_there d p r n is true same =
      let two : Member peer client seq ≡ Member p r n = sym now_here ∙ ap (λ (k : ℕ). conn_at renumbered k) (sym (eqb-true d conn same)) ∙ is in
      let one : peer ≡ p = cc in
      let own : client ≡ r = cc in
      (before, ap (λ (k : ℕ). conn_at t k) (eqb-true d conn same) ∙ there ∙ ap (λ (q : Peer). Member q client before) one ∙ ap (λ (k : ℕ). Member p k before) own)
  was_there d p r n is false other = (n, sym (elsewhere d other) ∙ is)

  is_there : (d : ℕ) (p : Peer) (r n : ℕ) → conn_at t d ≡ Member p r n → (b : Bool) → (d == conn) ≡ b → (m : ℕ) × (conn_at renumbered d ≡ Member p r m)
  is_there d p r n is true same =
      let two : Member peer client before ≡ Member p r n = sym there ∙ ap (λ (k : ℕ). conn_at t k) (sym (eqb-true d conn same)) ∙ is in
      let one : peer ≡ p = cc in
      let own : client ≡ r = cc in
      (seq, ap (λ (k : ℕ). conn_at renumbered k) (eqb-true d conn same) ∙ now_here ∙ ap (λ (q : Peer). Member q client seq) one ∙ ap (λ (k : ℕ). Member p k seq) own)
  is_there d p r n is false other = (n, elsewhere d other ∙ is)

  peer_there : (d : ℕ) (p : Peer) → peer_in (conn_at renumbered d) ≡ Some p → (b : Bool) → (d == conn) ≡ b → IsPeer p
  peer_there d p is true same = o.peers conn p (ap peer_in there ∙ sym (ap peer_in now_here) ∙ ap (λ (k : ℕ). peer_in (conn_at renumbered k)) (sym (eqb-true d conn same)) ∙ is)
  peer_there d p is false other = o.peers d p (ap peer_in (sym (elsewhere d other)) ∙ is)

  kind_there : (r : ℕ) → IsKind t.history t.conns t.roles r → IsKind t.history renumbered.conns t.roles r
  kind_there r (k_first is) = k_first is
  kind_there r (k_lead role low) = k_lead role low
  kind_there r (k_lent d p n role is) = let at = is_there d p r n is (d == conn) refl in k_lent d p at.0 role at.1
  kind_there r (k_child token euid role high) = k_child token euid role high

  renumbered_good : Good t renumbered
  renumbered_good = good_step t renumbered (record {
    ord = record {
      legal = o.legal;
      many = o.many;
      first = o.first;
      waits = λ r out waits. (let was = o.waits r out waits in let at = is_there was.0 was.1 r was.2 was.3 (was.0 == conn) refl in (was.0, was.1, at.0, at.1));
      lent = λ d p r n is. (let was = was_there d p r n is (d == conn) refl in o.lent d p r was.0 was.1);
      peers = λ d p is. peer_there d p is (d == conn) refl;
      kinds = λ r out live. kind_there r (o.kinds r out live);
    };
    lives = λ r out. refl;
    pids = λ r out. refl;
    roles = λ r out. refl;
  })

module _ (now conn client seq : ℕ) (ask : Ask) (s : Server) (o : Ord none s) (peer : Peer) (before : ℕ) (there : conn_at s conn ≡ Member peer client before) where
  abbrev call : Call
  call = call_of ask

  abbrev t : Server
  t = made now client call s

  still_lent : may_make s client ≡ true → (r : ℕ) → is_waiting (state t) r ≡ true → (b : Bool) → (client == r) ≡ b → IsMember s.conns r
  still_lent may r waits true same = (conn, peer, before, there ∙ ap (λ (k : ℕ). Member peer k before) (eqb-true client r same))
  still_lent may r waits false other =
      let even = even_other s now client call o.legal may r other in
      let waiting = ap one waits in
      o.waits r refl (one_true (is_waiting (state s) r) (omega (arith, even, waiting)))

  asked : may_make s client ≡ true → Good s t
  asked may = good_step s t (step_made none s now client call o may (λ r out. ask_leaves ask s client r) (ask_apart ask client) (λ r out waits. still_lent may r waits (client == r) refl))

  held_good : (segment : ℕ) (b : Bool) → Ord none t → Good t (holding t segment b).server
  held_good segment true ord = good_nothing t ord
  held_good segment false ord = good_step t (holding t segment false).server (record { ord = ord; lives = λ r out. refl; pids = λ r out. refl; roles = λ r out. refl })

  number_good : (number : ℕ) (found : Option Attachment) → Ord none t → Good t (passes conn seq number found t).server
  number_good number None ord = good_nothing t ord
  number_good number (Some a) ord = held_good a.segment (list_any (λ own. own == a.segment) t.memory) ord

  answer_good : (answer : Answer) → Ord none t → Good t (says_told conn client seq (told.Granted answer 0) (attached_by answer) t).server
  answer_good (Attached number) ord = number_good number (attachment_at (state t).shared.attached (process_at (state t) client) number) ord
  answer_good answer ord = good_nothing t ord

  own_good : (own : Option Outcome) → Ord none t → Good t (answers_told conn client seq (own_reply (length s.history.events + 1) own) t).server
  own_good None ord = subst (λ (x : Conn). Good t (with_conn t conn x)) (sym (ap (under seq) there)) (renumbered_good t ord conn peer client before seq there)
  own_good (Some (Ok answer)) ord = answer_good answer ord
  own_good (Some (Err rule)) ord = good_nothing t ord

  by_may : (b : Bool) → may_make s client ≡ b → Good s (if b then and_then (applies now client call s) (answers_told conn client seq (own_told now client call s)) else stays s).server
  by_may true may =
      let first = asked may in
      good_then s t (answers_told conn client seq (own_told now client call s) t).server first (own_good (result now client call s).own first.ord)
  by_may false may = good_nothing s o

  asks_good : Good s (asks now conn client seq call s).server
  asks_good = by_may (may_make s client) refl

-- THE FIRST MESSAGE

in_range : (p : ℕ → Bool) (a n k : ℕ) → find p (range_with_len a n) ≡ Some k → k < a + n
in_range p a zero k is = absurd (none-some k is)
in_range p a (suc n) k is = by (p a) is (in_range p (a + 1) n k)
  where
    by : (b : Bool) → cond b (Some a) (find p (range_with_len (a + 1) n)) ≡ Some k → (find p (range_with_len (a + 1) n) ≡ Some k → k < a + 1 + n) → k < a + suc n
    by true is rest = let same = same_Some a k is in omega (arith, same)
    by false is rest = let below = rest is in omega (arith, below)

from_range : (p : ℕ → Bool) (a n k : ℕ) → find p (range_with_len a n) ≡ Some k → a ≤ k
from_range p a zero k is = absurd (none-some k is)
from_range p a (suc n) k is = by (p a) is (from_range p (a + 1) n k)
  where
    by : (b : Bool) → cond b (Some a) (find p (range_with_len (a + 1) n)) ≡ Some k → (find p (range_with_len (a + 1) n) ≡ Some k → a + 1 ≤ k) → a ≤ k
    by true is rest = let same = same_Some a k is in omega (arith, same)
    by false is rest = let above = rest is in omega (arith, above)

free_known : (s : Server) (from k : ℕ) → from ≤ length s.history.clients → free_from from s ≡ Some k → k < length s.history.clients
free_known s from k low is = let below = in_range (has_exited (state s)) from (length s.history.clients - from) k is in omega (arith, below, low)

-- a client that is free, and one behind it
record IsFreeOne (s : Server) (k : ℕ) : Type 0 where
  ended : has_exited (state s) k ≡ true
  known : k < length s.history.clients

free_one : (s : Server) (k : ℕ) → free_client s ≡ Some k → IsFreeOne s k
free_one s k is = record { ended = free_ended s 0 k is; known = free_known s 0 k (omega arith) is }

module _ (now conn : ℕ) (peer : Peer) (seq : ℕ) (s : Server) (o : Ord none s) (silent : conn_at s conn ≡ Silent peer) where
  its_peer : IsPeer peer
  its_peer = o.peers conn peer (ap peer_in silent)

  joins_good : (lead : ℕ) → IsLead s peer.pid lead → (client : Option ℕ) → free_client s ≡ client → Good s (joins now conn peer seq lead client s).server
  joins_good lead it None is = good_nothing s o
  joins_good lead it (Some client) is =
      let free = free_one s client is in
      good_if _ _ (has_room s peer.creds.euid 1) (lends_good now conn peer seq lead client s o silent it.lives it.role it.pid_is free.ended free.known) (good_nothing s o)

  begins_good : (lead client : Option ℕ) → free_client s ≡ lead → free_after lead s ≡ client → lead_of s peer.pid ≡ None → Good s (begins now conn peer seq lead client s).server
  begins_good (Some lead) (Some client) is is_next missing =
      let free = free_one s lead is in
      let known = free.known in
      let above = from_range (has_exited (state s)) (lead + 1) (length s.history.clients - (lead + 1)) client is_next in
      good_if _ _ (has_room s peer.creds.euid 2)
      (begun_good now conn peer seq lead client s o silent its_peer free.ended free.known (free_ended s (lead + 1) client is_next) (free_known s (lead + 1) client (omega (arith, known)) is_next)
      (λ same. absurd (omega (arith, above, same))) missing)
      (good_nothing s o)
  begins_good (Some lead) None is is_next missing = good_nothing s o
  begins_good None client is is_next missing = good_nothing s o

  enters_good : (lead : Option ℕ) → lead_of s peer.pid ≡ lead → Good s (enters now conn peer seq lead s).server
  enters_good (Some lead) is = joins_good lead (found_lead s peer.pid lead is) (free_client s) refl
  enters_good None is = begins_good (free_client s) (free_after (free_client s) s) refl refl is

  grows_good : (child : ℕ) → IsChild s child → lead_of s peer.pid ≡ None → (client : Option ℕ) → free_client s ≡ client → Good s (grows_up now conn peer seq child client s).server
  grows_good child it missing None is = good_nothing s o
  grows_good child it missing (Some client) is =
      let free = free_one s client is in
      good_if _ _ (has_room s peer.creds.euid (more_of (creds_at (state s) child).euid peer.creds.euid))
      (grown_good now conn peer seq child it.token it.euid client s o silent its_peer it.lives it.role free.ended free.known missing) (good_nothing s o)

  forth_good : (token : ℕ) (child lead : Option ℕ) → child_of s token ≡ child → lead_of s peer.pid ≡ lead → Good s (comes_forth now conn peer seq child lead s).server
  forth_good token (Some child) None is missing = grows_good child (found_child s token child is) missing (free_client s) refl
  forth_good token (Some child) (Some lead) is there = left_good now conn s o (conn_at s conn) refl
  forth_good token None lead is there = left_good now conn s o (conn_at s conn) refl

  hello_good : (version token : ℕ) → Good s (hello now conn peer seq version token s).server
  hello_good version token = good_if _ _ (not (version == 1)) (left_good now conn s o (conn_at s conn) refl)
      (good_if _ _ (token == 0) (enters_good (lead_of s peer.pid) refl) (forth_good token (child_of s token) (lead_of s peer.pid) refl refl))

  first_good : (request : Request) → Good s (first now conn peer seq request s).server
  first_good (Hello version token) = hello_good version token
  first_good (Cancel number) = left_good now conn s o (conn_at s conn) refl
  first_good Fork = left_good now conn s o (conn_at s conn) refl
  first_good (Calls ask) = left_good now conn s o (conn_at s conn) refl
  first_good (Looks look) = left_good now conn s o (conn_at s conn) refl

-- A FORK

module _ (now conn euid seq token : ℕ) (s : Server) (o : Ord none s) (bar : fork_bar s euid token ≡ None) where
  announces_fine : (pid : ℕ) (lead child : Option ℕ) → lead_of s pid ≡ lead → free_client s ≡ child → Fine none s (announces now conn euid seq token lead child s).server
  announces_fine pid (Some lead) (Some child) is is_free =
      let it = found_lead s pid lead is in
      let free = free_one s child is_free in
      let step = step_announced now conn euid seq token lead child s o it.lives it.role free.ended free.known in
      subst (λ (y : Server). Fine none s y) (sym (went_announced now conn euid seq token lead child s o it.lives it.role free.ended free.known)) (record {
        ord = ord_announced now conn euid seq token lead child s o it.lives it.role free.ended free.known;
        grows = one_more child token euid bar
            (λ r other live is. (sym (step.lives r (only_not child r other)) ∙ live, step.roles r (only_not child r other)))
            (role_announced now conn euid seq token lead child s o it.lives it.role free.ended free.known);
        led = led_announced now conn euid seq token lead child s o it.lives it.role free.ended free.known;
      })
  announces_fine pid (Some lead) None is is_free = fine (good_nothing s o)
  announces_fine pid None child is is_free = fine (good_nothing s o)

forks_fine : (now conn pid euid seq token : ℕ) (s : Server) → Ord none s → (why : Option Hindrance) → fork_bar s euid token ≡ why → Fine none s (forks_unless why now conn pid euid seq token s).server
forks_fine now conn pid euid seq token s o (Some why) is = fine (good_nothing s o)
forks_fine now conn pid euid seq token s o None is = announces_fine now conn euid seq token s o is pid (lead_of s pid) (free_client s) refl refl

-- A MESSAGE

interrupts_good : (now client : ℕ) (s : Server) → Ord none s → Good s (interrupts now client s).server
interrupts_good now client s o = good_if _ _ (is_waiting (state s) client)
    (good_step s (makes now 0 (calls.InterruptThread client) s).server (step_makes none s now 0 (calls.InterruptThread client) o (λ r out. (refl, refl, refl, refl)) refl refl)) (good_nothing s o)

meanwhile_good : (now conn client seq : ℕ) (request : Request) (s : Server) → Ord none s → Good s (meanwhile now conn client seq request s).server
meanwhile_good now conn client seq (Cancel other) s o = good_if _ _ (other == seq) (interrupts_good now client s o) (good_nothing s o)
meanwhile_good now conn client seq (Hello version token) s o = left_good now conn s o (conn_at s conn) refl
meanwhile_good now conn client seq Fork s o = left_good now conn s o (conn_at s conn) refl
meanwhile_good now conn client seq (Calls ask) s o = left_good now conn s o (conn_at s conn) refl
meanwhile_good now conn client seq (Looks look) s o = left_good now conn s o (conn_at s conn) refl

next_fine : (now conn : ℕ) (peer : Peer) (client token seq before : ℕ) (request : Request) (s : Server) → Ord none s → conn_at s conn ≡ Member peer client before → Fine none s (next now conn peer client token seq request s).server
next_fine now conn peer client token seq before (Hello version other) s o there = fine (left_good now conn s o (conn_at s conn) refl)
next_fine now conn peer client token seq before (Cancel other) s o there = fine (good_nothing s o)
next_fine now conn peer client token seq before Fork s o there = forks_fine now conn peer.pid peer.creds.euid seq token s o (fork_bar s peer.creds.euid token) refl
next_fine now conn peer client token seq before (Calls ask) s o there = fine (asks_good now conn client seq ask s o peer before there)
next_fine now conn peer client token seq before (Looks look) s o there = fine (good_nothing s o)

takes_fine : (now conn token : ℕ) (m : Message) (x : Conn) (s : Server) → Ord none s → conn_at s conn ≡ x → Fine none s (takes now conn token m x s).server
takes_fine now conn token m Absent s o is = fine (good_nothing s o)
takes_fine now conn token m (Silent peer) s o is = fine (first_good now conn peer m.seq s o is m.request)
takes_fine now conn token m (Member peer client seq) s o is =
    fine_if _ _ (is_waiting (state s) client) (fine (meanwhile_good now conn client seq m.request s o)) (next_fine now conn peer client token m.seq seq m.request s o is)

served_fine : (supply : Supply) (now conn token : ℕ) (m : Option Message) (s : Server) → Ord none s → Fine none s (served supply now conn token m s).server
served_fine Unread now conn token m s o = fine (left_good now conn s o (conn_at s conn) refl)
served_fine Enough now conn token None s o = fine (left_good now conn s o (conn_at s conn) refl)
served_fine Short now conn token None s o = fine (left_good now conn s o (conn_at s conn) refl)
served_fine Enough now conn token (Some m) s o = takes_fine now conn token m (conn_at s conn) s o refl
served_fine Short now conn token (Some m) s o = fine (good_nothing s o)

hears_fine : (supply : Supply) (now conn : ℕ) (sender : Sender) (bytes : List ℕ) (token : ℕ) (peer : Option Peer) (s : Server) → Ord none s → Fine none s (hears supply now conn sender bytes token peer s).server
hears_fine supply now conn sender bytes token None s o = fine (good_nothing s o)
hears_fine supply now conn sender bytes token (Some peer) s o =
    fine_if _ _ (is_sender peer sender) (served_fine supply now conn token (decode bytes) s o) (fine (left_good now conn s o (conn_at s conn) refl))

serves_fine : (supply : Supply) (now : ℕ) (e : Event) (s : Server) → Ord none s → Fine (is_end_of e) s (serves supply now e s).server
serves_fine supply now (Connected conn pid creds) s o = fine_too _ (fine (connects_good conn pid creds s o))
serves_fine supply now (Sent conn sender bytes token) s o = fine_too _ (hears_fine supply now conn sender bytes token (peer_in (conn_at s conn)) s o)
serves_fine supply now (Closed conn) s o = fine_too _ (fine (left_good now conn s o (conn_at s conn) refl))
serves_fine supply now (Mapped pid is_mapped) s o = fine_too _ (fine_if _ _ is_mapped (fine (good_nothing s o)) (fine (executes_good now pid (lead_of s pid) s o refl)))
serves_fine supply now (Ended pid) s o = fine (ends_good pid s o now)
serves_fine supply now (ForkLost token) s o = fine_too _ (fine (dies_good now token (child_of s token) s o refl))
serves_fine supply now Tick s o = fine_too _ (fine_if _ _ (is_due now (soonest (state s).parked))
    (fine (good_step s (makes now 0 (calls.Interrupt 0) s).server (step_makes none s now 0 (calls.Interrupt 0) o (λ r out. (refl, refl, refl, refl)) refl refl))) (fine (good_nothing s o)))

pub step_fine : (supply : Supply) (now : ℕ) (e : Event) (s : Server) → Ord none s → Fine (is_end_of e) s (step supply now e s).server
step_fine supply now e s o = let fine_so = serves_fine supply now e s o in record { ord = fine_so.ord; grows = swept (serves supply now e s).server fine_so.grows; led = λ pid other known. known_swept (serves supply now e s).server pid (fine_so.led pid other known) }
  where
    swept : (u : Server) → Grows s u → Grows s (sweeps u).server
    swept u (none_more grew) = none_more grew
    swept u (one_more child token euid bar others role) = one_more child token euid bar others role

    known_swept : (u : Server) (pid : ℕ) → IsKnown u pid → IsKnown (sweeps u).server pid
    known_swept u pid known = record { lead = known.lead; lives = known.lives; role = known.role; pid_is = known.pid_is }
