-- Processes end and become other programs, and connections come and call.
use Rattle.std.proofs.Common.{◌≡◌, ◌≢◌, ℕ, zero, suc, ◌<◌, ◌≤◌, Bool, true, false, List, [], ◌∷◌, Option, Some, None, length, refl, sym, ap, ◌∙◌, arith, get_or, subst, ⊎_elim, inl, inr}
use Rattle.std.specs.Prelude.{◌⊎◌, ◌==◌, ◌&&◌, nat_le, nat_lt, not, is_some, if◌then◌else◌}
use Rattle.std.specs.List.{list_any}
use Rattle.std.proofs.lemmas.Bool.{and_parts, eq-eqb, eqb-true, false≢true, leb-true, ltb-true, ne_eqb, not-true, or_parts, true≢false}
use Rattle.std.proofs.lemmas.List.{get_or-set_other}
use Rattle.std.proofs.lemmas.Option.{none-some}
use Rattle.ipc_call.specs.declared.calls.Call.{Call}
use Rattle.ipc_call.specs.declared.calls.Call.TheVariants as calls
use Rattle.ipc_creds.specs.Credentials.{Credentials, groups_max}
use Rattle.ipc_model.specs.State.{Thread, has_exited, has_pid, pid_at, process_at, runs, thread_at, is_waiting}
use Rattle.ipc_server.specs.declared.outputs.Closing.{Closing}
use Rattle.ipc_server.specs.declared.outputs.Closing.TheVariants as why
use Rattle.ipc_server.specs.declared.peers.Conn.{Conn}
use Rattle.ipc_server.specs.declared.peers.Conn.TheVariants.{Absent, Silent, Member}
use Rattle.ipc_server.specs.declared.peers.Peer.{Peer}
use Rattle.ipc_server.specs.declared.peers.Role.{Role}
use Rattle.ipc_server.specs.declared.peers.Role.TheVariants.{Free, Lead, Lent, Child}
use Rattle.ipc_server.specs.declared.outputs.Output.TheVariants as outputs
use Rattle.ipc_server.specs.Going.{says, stays}
use Rattle.ipc_server.specs.Lives.{bar, closes_all, connects, connects_unless, dies, ends, executes, is_free, is_member_of, kills, new_bar, pid_of_child, without}
use Rattle.ipc_server.specs.Making.{applies, event, made, makes, may_make}
use Rattle.ipc_server.specs.Servers.{Server, child_of, clients_of, conn_at, has_token, is_named, is_of, is_process, lead_of, peer_in, role_at, state, with_conn, is_child}
use Rattle.life_laws.specs.Lives.{Executes}
use Rattle.life_laws.proofs.Changed.{pid-from, pid-parts, runs-from, runs-parts}
use Rattle.life_laws.proofs.Ended.{exec-run, kill-run}
use Rattle.life_laws.proofs.Few.{pid-stays}
use Rattle.life_laws.proofs.Pids.{one-run}
use Rattle.server_laws.specs.Ends.{IsKnown}
use Rattle.server_laws.proofs.Begun.{IsLead, child_alone, child_pid, found_lead, no_lead}
use Rattle.server_laws.proofs.Conns.{map_without, silent_member, silent_peer}
use Rattle.server_laws.proofs.Order.{IsKind, IsLentIn, IsMember, IsPeer, Ord, Step, exempt, exempt_by, first_may, k_child, k_first, k_lead, k_lent, lives_known, none, only, only_other, server_is, settle_by, settle_ended, step_never}
use Rattle.server_laws.proofs.Ordering.{Good, good_settled, good_step, only_is, idle_unlent, GoodBut, lead_not_as, led_by}
use Rattle.server_laws.proofs.Others.{found_passes}
use Rattle.server_laws.proofs.Waiting.{ended_idle, idle_applied}

-- the child of a token
child_role : (token : ℕ) (r : Role) → has_token token r ≡ true → (own : ℕ) × (euid : ℕ) × (r ≡ Child own euid)
child_role token (Child own euid) is = (own, euid, refl)
child_role token Free is = absurd (false≢true is)
child_role token Lead is = absurd (false≢true is)
child_role token (Lent conn) is = absurd (false≢true is)

pub record IsChild (s : Server) (child : ℕ) : Type 0 where
  pub lives : has_exited (state s) child ≡ false
  pub token : ℕ
  pub euid : ℕ
  pub role : role_at s child ≡ Child token euid

pub found_child : (s : Server) (token child : ℕ) → child_of s token ≡ Some child → IsChild s child
found_child s token child is =
    let parts = and_parts (not (has_exited (state s) child)) (has_token token (role_at s child)) (found_passes (is_named s token) (clients_of s) child is) in
    let role = child_role token (role_at s child) parts.1 in
    record { lives = not-true (has_exited (state s) child) parts.0; token = role.0; euid = role.1; role = role.2 }

-- who has a pid that isn't another's has ended after a kill of it
module _ (now pid target : ℕ) (X : ℕ → Bool) (s : Server) (o : Ord X s) (target_lives : has_exited (state s) target ≡ false) (target_pid : pid_at (state s) target ≡ pid)
    (outside : (r : ℕ) → X r ≡ false → has_exited (state s) r ≡ false → pid_at (state s) r ≢ pid) (inside : (r : ℕ) → X r ≡ true → pid_at (state s) r ≡ pid) where
  abbrev kill : Call
  kill = calls.Kill pid

  abbrev killed : Server
  killed = made now 0 kill s

  may_kill : may_make s 0 ≡ true
  may_kill = first_may s o

  not_killed : (r : ℕ) → X r ≡ false → (b : Bool) → has_pid pid (thread_at (state s) r) ≡ b → b ≡ false
  not_killed r out false is = refl
  not_killed r out true is = let parts = pid-parts pid (thread_at (state s) r) is in absurd (outside r out parts.1 parts.0)

  step_killed : Step X s killed
  step_killed = step_never X s now 0 kill o may_kill (λ r out. (refl, not_killed r out (has_pid pid (thread_at (state s) r)) refl, refl, refl)) refl refl

  dead : (r : ℕ) → X r ≡ true → has_exited (state killed) r ≡ true
  dead r in_it = by (has_exited (state killed) r) refl
    where
      by : (b : Bool) → has_exited (state killed) r ≡ b → has_exited (state killed) r ≡ true
      by true is = is
      by false live =
          let did = kill-run s.history now 0 o.first.lives o.first.admin pid target (pid-from pid (thread_at (state s) target) target_pid target_lives) in
          absurd (did.free r live (pid-stays s.history (event now 0 kill) r refl ∙ inside r in_it))

  pub ord_killed : Ord none killed
  ord_killed = settle_ended X killed step_killed.ord dead

  pub kill_good : (D : ℕ → Bool) (before : Server) → ((r : ℕ) → X r ≡ false → has_exited (state s) r ≡ has_exited (state before) r) → ((r : ℕ) → X r ≡ false → pid_at (state s) r ≡ pid_at (state before) r)
      → ((r : ℕ) → X r ≡ false → role_at s r ≡ role_at before r) → ((p : ℕ) → D p ≡ false → (known : IsKnown before p) → X known.lead ≡ false) → GoodBut D before (makes now 0 kill s).server
  kill_good D before same pids roles leads =
      subst (λ (y : Server). GoodBut D before y) (sym (server_is now 0 kill s may_kill))
      (good_settled D X before killed (λ r out. step_killed.lives r out ∙ same r out) (λ r out. step_killed.roles r out ∙ roles r out) ord_killed
      (λ r in_it live child. true≢false (sym (dead r in_it) ∙ live))
      (led_by D X before killed (λ r out. step_killed.lives r out ∙ same r out) (λ r out. step_killed.pids r out ∙ pids r out) (λ r out. step_killed.roles r out ∙ roles r out) leads))

pub dies_good : (now token : ℕ) (child : Option ℕ) (s : Server) → Ord none s → child_of s token ≡ child → Good s (dies now child s).server
dies_good now token None s o is = good_step s s (record { ord = o; lives = λ r out. refl; pids = λ r out. refl; roles = λ r out. refl })
dies_good now token (Some child) s o is =
    kill_good now (pid_of_child child) child (only child) s start it.lives (child_pid s child it.token it.euid o it.lives it.role)
    (λ r out live same. only_other child r out (child_alone s child o r live same))
    (λ r in_it. ap (λ (k : ℕ). pid_at (state s) k) (only_is child r in_it) ∙ child_pid s child it.token it.euid o it.lives it.role)
    none s (λ r out. refl) (λ r out. refl) (λ r out. refl) (lead_not_as s child (Child it.token it.euid) it.role refl)
  where
    it : IsChild s child
    it = found_child s token child is

    start : Ord (only child) s
    start = exempt s child o
        (λ same. (let two : Free ≡ Child it.token it.euid = sym o.first.role ∙ ap (λ (k : ℕ). role_at s k) (sym same) ∙ it.role in cc))
        (λ conn p r n is same. (let two : Lent conn ≡ Child it.token it.euid = sym (o.lent conn p r n is).role ∙ ap (λ (k : ℕ). role_at s k) same ∙ it.role in cc))
        (λ lead lives is same. (let two : Lead ≡ Child it.token it.euid = sym is ∙ ap (λ (k : ℕ). role_at s k) same ∙ it.role in cc))

-- a lead's pid is none of a child's
pub lead_low : (s : Server) (lead : ℕ) → Ord none s → has_exited (state s) lead ≡ false → role_at s lead ≡ Lead → pid_at (state s) lead < 2147483648
lead_low s lead o live role = by (o.kinds lead refl live)
  where
    by : IsKind s.history s.conns s.roles lead → pid_at (state s) lead < 2147483648
    by (k_first is) = let two : Free ≡ Lead = sym o.first.role ∙ ap (λ (k : ℕ). role_at s k) (sym is) ∙ role in cc
    by (k_lead other low) = low
    by (k_lent conn peer seq other there) = let two : Lent conn ≡ Lead = sym other ∙ role in cc
    by (k_child token euid other high) = let two : Child token euid ≡ Lead = sym other ∙ role in cc

-- ALL CONNECTIONS OF A PROCESS GO

without_member : (b : Bool) (x : Conn) (p : Peer) (r n : ℕ) → (if b then Absent else x) ≡ Member p r n → (b ≡ false) × (x ≡ Member p r n)
without_member true x p r n is = cc
without_member false x p r n is = (refl, is)

without_peer : (b : Bool) (x : Conn) (p : Peer) → peer_in (if b then Absent else x) ≡ Some p → peer_in x ≡ Some p
without_peer true x p is = absurd (none-some p is)
without_peer false x p is = is

module _ (pid : ℕ) (s : Server) (o : Ord none s) where
  abbrev closed : Server
  closed = (closes_all pid s).server

  there_is : (d : ℕ) → conn_at closed d ≡ without (is_of (is_process pid)) (conn_at s d)
  there_is d = map_without (is_of (is_process pid)) refl s.conns d

  survives : (d : ℕ) (p : Peer) (r n : ℕ) → conn_at s d ≡ Member p r n → p.pid ≢ pid → conn_at closed d ≡ Member p r n
  survives d p r n is other = there_is d ∙ ap (without (is_of (is_process pid))) is ∙ ap (λ (b : Bool). if b then Absent else Member p r n) (ne_eqb p.pid pid other)

  survived : (d : ℕ) (p : Peer) (r n : ℕ) → conn_at closed d ≡ Member p r n → (conn_at s d ≡ Member p r n) × (p.pid ≢ pid)
  survived d p r n is =
      let parts = without_member (is_of (is_process pid) (conn_at s d)) (conn_at s d) p r n (sym (there_is d) ∙ is) in
      (parts.1, λ same. true≢false (sym (eq-eqb p.pid pid same) ∙ ap (λ (x : Conn). is_of (is_process pid) x) (sym parts.1) ∙ parts.0))

  module _ (X : ℕ → Bool) (apart : X 0 ≡ false)
      (keeps : (d : ℕ) (p : Peer) (r n : ℕ) → conn_at s d ≡ Member p r n → X r ≡ false → p.pid ≢ pid)
      (members : (d : ℕ) (p : Peer) (r n : ℕ) → conn_at s d ≡ Member p r n → p.pid ≢ pid → X r ≡ false)
      (leads : (lead : ℕ) → pid_at (state s) lead ≢ pid → X lead ≡ false) where
    closed_ord : Ord X closed
    closed_ord = record {
      legal = o.legal;
      many = o.many;
      first = record { outside = apart; lives = o.first.lives; role = o.first.role; pid_is = o.first.pid_is; admin = o.first.admin };
      waits = λ r out is. (let there = o.waits r refl is in (there.0, there.1, there.2, survives there.0 there.1 r there.2 there.3 (keeps there.0 there.1 r there.2 there.3 out)));
      lent = λ d p r n is. lent_there d p r n (survived d p r n is);
      peers = λ d p is. o.peers d p (without_peer (is_of (is_process pid) (conn_at s d)) (conn_at s d) p (ap peer_in (sym (there_is d)) ∙ is));
      kinds = λ r out live. kind_there r out (o.kinds r refl live);
    }
      where
        lent_there : (d : ℕ) (p : Peer) (r n : ℕ) → (conn_at s d ≡ Member p r n) × (p.pid ≢ pid) → IsLentIn X s.history s.roles d p r
        lent_there d p r n was = let mine = o.lent d p r n was.0 in record {
          outside = members d p r n was.0 was.1;
          lives = mine.lives;
          role = mine.role;
          pid_is = mine.pid_is;
          creds = mine.creds;
          led = (let led = mine.led in record { lead = led.lead; outside = leads led.lead (λ same. was.1 (sym led.pid_is ∙ same)); lives = led.lives; role = led.role; pid_is = led.pid_is });
        }

        kind_there : (r : ℕ) → X r ≡ false → IsKind s.history s.conns s.roles r → IsKind s.history closed.conns s.roles r
        kind_there r out (k_first is) = k_first is
        kind_there r out (k_lead role low) = k_lead role low
        kind_there r out (k_lent d p n role there) = k_lent d p n role (survives d p r n there (keeps d p r n there out))
        kind_there r out (k_child token euid role high) = k_child token euid role high

  closed_none : lead_of s pid ≡ None → Good s closed
  closed_none missing = good_step s closed (record {
    ord = closed_ord none refl (λ d p r n is out same. (let led = (o.lent d p r n is).led in no_lead s pid led.lead missing led.lives led.role (led.pid_is ∙ same))) (λ d p r n is other. refl) (λ lead other. refl);
    lives = λ r out. refl;
    pids = λ r out. refl;
    roles = λ r out. refl;
  })

  abbrev its : ℕ → Bool
  its r = pid_at (state s) r == pid

  its_not : (r : ℕ) → pid_at (state s) r ≢ pid → its r ≡ false
  its_not r other = ne_eqb (pid_at (state s) r) pid other

  its_other : (r : ℕ) → its r ≡ false → pid_at (state s) r ≢ pid
  its_other r out same = true≢false (sym (eq-eqb (pid_at (state s) r) pid same) ∙ out)

  abbrev its_end : ℕ → Bool
  its_end p = p == pid

  closed_some : (now lead : ℕ) → lead_of s pid ≡ Some lead → GoodBut its_end s (makes now 0 (calls.Kill pid) closed).server
  closed_some now lead is =
      let it = found_lead s pid lead is in
      let low = lead_low s lead o it.lives it.role in
      let own = it.pid_is in
      let zero_pid = o.first.pid_is in
      let ord = closed_ord its (its_not 0 (λ same. absurd (omega (arith, low, own, zero_pid, same))))
      (λ d p r n is out same. its_other r out ((o.lent d p r n is).pid_is ∙ same))
      (λ d p r n is other. its_not r (λ same. other (sym (o.lent d p r n is).pid_is ∙ same)))
      its_not in
      kill_good now pid lead its closed ord it.lives it.pid_is (λ r out live. its_other r out) (λ r in_it. eqb-true (pid_at (state s) r) pid in_it) its_end s (λ r out. refl) (λ r out. refl) (λ r out. refl)
      (λ p other known. its_not known.lead (λ same. true≢false (sym (eq-eqb p pid (sym known.pid_is ∙ same)) ∙ other)))

  ended_by : (now : ℕ) (lead : Option ℕ) → lead_of s pid ≡ lead → GoodBut its_end s (kills now pid lead closed).server
  ended_by now None is = let good = closed_none is in record { ord = good.ord; grew = good.grew; led = λ p other known. good.led p refl known }
  ended_by now (Some lead) is = closed_some now lead is

  pub ends_good : (now : ℕ) → GoodBut its_end s (ends now pid s).server
  ends_good now = ended_by now (lead_of s pid) refl

-- ANOTHER PROGRAM

any_at : (p : Conn → Bool) → p Absent ≡ false → (xs : List Conn) (i : ℕ) → list_any p xs ≡ false → p (get_or xs i Absent) ≡ false
any_at p fails [] i missing = fails
any_at p fails (x ∷ xs) zero missing = (or_parts (p x) (list_any p xs) missing).0
any_at p fails (x ∷ xs) (suc i) missing = any_at p fails xs i (or_parts (p x) (list_any p xs) missing).1

good_same : (s : Server) → Ord none s → Good s s
good_same s o = good_step s s (record { ord = o; lives = λ r out. refl; pids = λ r out. refl; roles = λ r out. refl })

module _ (now pid lead : ℕ) (s : Server) (o : Ord none s) (it : IsLead s pid lead) (alone : list_any (is_member_of pid) s.conns ≡ false) where
  abbrev mates : ℕ → Bool
  mates r = runs (process_at (state s) lead) (thread_at (state s) r)

  mate_pid : (r : ℕ) → runs (process_at (state s) lead) (thread_at (state s) r) ≡ true → pid_at (state s) r ≡ pid
  mate_pid r is = let parts = runs-parts (process_at (state s) lead) (thread_at (state s) r) is in one-run s.history r lead parts.1 it.lives parts.0 ∙ it.pid_is

  no_mate : (r : ℕ) → pid_at (state s) r ≢ pid → mates r ≡ false
  no_mate r other = by (runs (process_at (state s) lead) (thread_at (state s) r)) refl
    where
      by : (b : Bool) → runs (process_at (state s) lead) (thread_at (state s) r) ≡ b → b ≡ false
      by true is = absurd (other (mate_pid r is))
      by false is = refl

  member_pid : (conn : ℕ) (peer : Peer) (client seq : ℕ) → conn_at s conn ≡ Member peer client seq → peer.pid ≢ pid
  member_pid conn peer client seq is same =
      true≢false (sym (eq-eqb peer.pid pid same) ∙ ap (λ (x : Conn). is_member_of pid x) (sym is) ∙ any_at (is_member_of pid) refl s.conns conn alone)

  start_exec : Ord mates s
  start_exec =
      let low = lead_low s lead o it.lives it.role in
      let own = it.pid_is in
      let zero_pid = o.first.pid_is in
      exempt_by mates s o (no_mate 0 (λ same. absurd (omega (arith, low, own, zero_pid, same))))
      (λ conn peer client seq is. no_mate client (λ same. member_pid conn peer client seq is (sym (o.lent conn peer client seq is).pid_is ∙ same)))
      (λ conn peer client seq other is lives role its. no_mate other (λ same. member_pid conn peer client seq is (sym its ∙ same)))

  lead_apart : (lead == 0) ≡ false
  lead_apart = ne_eqb lead 0 (λ same. (let two : Free ≡ Lead = sym o.first.role ∙ ap (λ (k : ℕ). role_at s k) (sym same) ∙ it.role in cc))

  lead_mate : mates lead ≡ true
  lead_mate = runs-from (process_at (state s) lead) (thread_at (state s) lead) refl it.lives

  lead_other : (r : ℕ) → mates r ≡ false → (lead == r) ≡ false
  lead_other r out = ne_eqb lead r (λ same. true≢false (sym lead_mate ∙ ap mates same ∙ out))

  module _ (may : may_make s lead ≡ true) where
    abbrev executed : Server
    executed = made now lead calls.Exec s

    step_exec : Step mates s executed
    step_exec = step_never mates s now lead calls.Exec start_exec may (λ r out. (refl, ap (λ (b : Bool). b && not (lead == r)) out, refl, lead_other r out)) lead_apart refl

    lead_idle : is_waiting (state s) lead ≡ false
    lead_idle = idle_unlent s lead o refl (λ c is. (let two : Lead ≡ Lent c = sym it.role ∙ is in cc))

    did : Executes s.history (event now lead calls.Exec) lead
    did = exec-run s.history now lead it.lives (lives_known s.history lead it.lives) lead_idle

    lead_pid_now : pid_at (state executed) lead ≡ pid
    lead_pid_now = ap (λ (x : Thread). x.pid) did.thread ∙ it.pid_is

    -- the lead, or one that has ended
    ended_or_lead : (r : ℕ) → mates r ≡ true → (b : Bool) → (r == lead) ≡ b → (r ≡ lead) ⊎ (has_exited (state executed) r ≡ true)
    ended_or_lead r in_it true same = inl (eqb-true r lead same)
    ended_or_lead r in_it false other = inr (ap (λ (x : Thread). x.has_ended) (did.ended r (λ same. true≢false (sym (eq-eqb r lead same) ∙ other)) in_it).thread)

    waits_not : (r : ℕ) → mates r ≡ true → is_waiting (state executed) r ≡ true → IsMember s.conns r
    waits_not r in_it waits = ⊎_elim
        (λ (same : r ≡ lead). absurd (true≢false (sym waits ∙ ap (λ (k : ℕ). is_waiting (state executed) k) same ∙ idle_applied s now lead calls.Exec o.legal may refl lead lead_idle)))
        (λ (ended : has_exited (state executed) r ≡ true). absurd (true≢false (sym waits ∙ ended_idle executed.history r ended)))
        (ended_or_lead r in_it (r == lead) refl)

    kind_now : (r : ℕ) → mates r ≡ true → has_exited (state executed) r ≡ false → IsKind executed.history s.conns s.roles r
    kind_now r in_it live = ⊎_elim
        (λ (same : r ≡ lead). k_lead (ap (λ (k : ℕ). role_at s k) same ∙ it.role)
        (let low = lead_low s lead o it.lives it.role in let own = it.pid_is in let pid_now = ap (λ (k : ℕ). pid_at (state executed) k) same ∙ lead_pid_now in omega (arith, low, own, pid_now)))
        (λ (ended : has_exited (state executed) r ≡ true). absurd (true≢false (sym ended ∙ live)))
        (ended_or_lead r in_it (r == lead) refl)

    no_child_now : (r : ℕ) → mates r ≡ true → has_exited (state executed) r ≡ false → is_child (role_at executed r) ≡ true → ⊥
    no_child_now r in_it live child = ⊎_elim
        (λ (same : r ≡ lead). true≢false (sym child ∙ ap (λ (k : ℕ). is_child (role_at s k)) same ∙ ap is_child it.role))
        (λ (ended : has_exited (state executed) r ≡ true). true≢false (sym ended ∙ live))
        (ended_or_lead r in_it (r == lead) refl)

    -- the lead that is another program leads its process on
    known_still : (p : ℕ) (known : IsKnown s p) (b : Bool) → mates known.lead ≡ b → IsKnown executed p
    known_still p known true in_it = record {
      lead = lead;
      lives = ap (λ (x : Thread). x.has_ended) did.thread ∙ it.lives;
      role = it.role;
      pid_is = lead_pid_now ∙ sym (mate_pid known.lead in_it) ∙ known.pid_is;
    }
    known_still p known false out = record {
      lead = known.lead;
      lives = step_exec.lives known.lead out ∙ known.lives;
      role = known.role;
      pid_is = step_exec.pids known.lead out ∙ known.pid_is;
    }

    exec_made : Good s executed
    exec_made = good_settled none mates s executed step_exec.lives step_exec.roles (settle_by mates executed step_exec.ord waits_not kind_now) no_child_now
        (λ p other known. known_still p known (mates known.lead) refl)

  exec_by : (b : Bool) → may_make s lead ≡ b → Good s (if b then applies now lead calls.Exec s else stays s).server
  exec_by false may = good_same s o
  exec_by true may = exec_made may

executes_by : (now pid lead : ℕ) (s : Server) → Ord none s → IsLead s pid lead → (b : Bool) → list_any (is_member_of pid) s.conns ≡ b → Good s (if b then stays s else makes now lead calls.Exec s).server
executes_by now pid lead s o it true is = good_same s o
executes_by now pid lead s o it false is = exec_by now pid lead s o it is (may_make s lead) refl

pub executes_good : (now pid : ℕ) (lead : Option ℕ) (s : Server) → Ord none s → lead_of s pid ≡ lead → Good s (executes now pid lead s).server
executes_good now pid None s o is = good_same s o
executes_good now pid (Some lead) s o is = executes_by now pid lead s o (found_lead s pid lead is) (list_any (is_member_of pid) s.conns) refl

-- A CONNECTION COMES

if_passes : (b : Bool) (why : Closing) (o : Option Closing) → (if b then Some why else o) ≡ None → (b ≡ false) × (o ≡ None)
if_passes true why o is = absurd (none-some why (sym is))
if_passes false why o is = (refl, is)

unnot : (b : Bool) → not b ≡ false → b ≡ true
unnot true is = refl
unnot false is = absurd (true≢false is)

new_peer : (s : Server) (conn pid : ℕ) (c : Credentials) (b : Bool) → is_free s conn ≡ b → (if b then new_bar s pid c.euid else Some why.BadNumber) ≡ None
    → (0 < pid) × (pid < 2147483648) × (is_some (peer_in (conn_at s conn)) ≡ false)
new_peer s conn pid c false is missing = absurd (none-some why.BadNumber (sym missing))
new_peer s conn pid c true is missing =
    let first = unnot (nat_lt 0 pid && nat_lt pid 2147483648) (if_passes (not (nat_lt 0 pid && nat_lt pid 2147483648)) why.BadPid _ missing).0 in
    let both = and_parts (nat_lt 0 pid) (nat_lt pid 2147483648) first in
    let free = and_parts (nat_lt conn (length s.conns)) (not (is_some (peer_in (conn_at s conn)))) is in
    (ltb-true 0 pid both.0, ltb-true pid 2147483648 both.1, not-true (is_some (peer_in (conn_at s conn))) free.1)

unless_good : (conn pid : ℕ) (c : Credentials) (s : Server) → Ord none s → length c.groups ≤ groups_max → (why : Option Closing) → bar s conn pid c ≡ why
    → Good s (connects_unless why conn (record { pid = pid; creds = c }) s).server
unless_good conn pid c s o few (Some why) is = good_same s o
unless_good conn pid c s o few None is =
    let new : Peer = record { pid = pid; creds = c } in
    let may = new_peer s conn pid c (is_free s conn) refl is in
    let t = with_conn s conn (Silent new) in
    let apart : (d : ℕ) (p : Peer) (r n : ℕ) → conn_at s d ≡ Member p r n → d ≢ conn =
    λ d p r n at same. true≢false (sym (ap (λ (x : Conn). is_some (peer_in x)) at) ∙ ap (λ (k : ℕ). is_some (peer_in (conn_at s k))) same ∙ may.2) in
    let still : (d : ℕ) (p : Peer) (r n : ℕ) → conn_at s d ≡ Member p r n → conn_at t d ≡ Member p r n =
    λ d p r n at. get_or-set_other s.conns conn d (Silent new) Absent (apart d p r n at) ∙ at in
    good_step s t (record {
      ord = record {
        legal = o.legal;
        many = o.many;
        first = o.first;
        waits = λ r out waits. (let there = o.waits r out waits in (there.0, there.1, there.2, still there.0 there.1 r there.2 there.3));
        lent = λ d p r n at. o.lent d p r n (silent_member s.conns conn d new p r n at);
        peers = λ d p at. silent_peer IsPeer s.conns conn d new p (record { some = may.0; few = may.1; groups = few }) o.peers at;
        kinds = λ r out live. kind_still s t still r (o.kinds r out live);
      };
      lives = λ r out. refl;
      pids = λ r out. refl;
      roles = λ r out. refl;
    })
  where
    kind_still : (s t : Server) → ((d : ℕ) (p : Peer) (r n : ℕ) → conn_at s d ≡ Member p r n → conn_at t d ≡ Member p r n) → (r : ℕ) → IsKind s.history s.conns s.roles r → IsKind s.history t.conns s.roles r
    kind_still s t still r (k_first is) = k_first is
    kind_still s t still r (k_lead role low) = k_lead role low
    kind_still s t still r (k_lent d p n role there) = k_lent d p n role (still d p r n there)
    kind_still s t still r (k_child token euid role high) = k_child token euid role high

connects_by : (conn pid : ℕ) (c : Credentials) (s : Server) → Ord none s → (b : Bool) → nat_le (length c.groups) groups_max ≡ b
    → Good s (if not b then says (outputs.Close conn why.TooManyGroups) s else connects_unless (bar s conn pid c) conn (record { pid = pid; creds = c }) s).server
connects_by conn pid c s o true is = unless_good conn pid c s o (leb-true (length c.groups) groups_max is) (bar s conn pid c) refl
connects_by conn pid c s o false is = good_same s o

pub connects_good : (conn pid : ℕ) (c : Credentials) (s : Server) → Ord none s → Good s (connects conn pid c s).server
connects_good conn pid c s o = connects_by conn pid c s o (nat_le (length c.groups) groups_max) refl
