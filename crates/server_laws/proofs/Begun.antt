-- Processes begin, show up and are announced.
use Rattle.std.proofs.Common.{◌≡◌, ◌≢◌, ℕ, zero, suc, ◌+◌, ◌<◌, ◌≤◌, Bool, true, false, cond, Some, None, length, refl, sym, ap, ◌∙◌, arith, subst}
use Rattle.std.specs.Prelude.{◌==◌, ◌&&◌, not}
use Rattle.std.specs.List.{find, range_with_len}
use Rattle.std.proofs.lemmas.Bool.{and_parts, eq-eqb, eqb-true, false≢true, lt-ltb, not-true, true≢false}
use Rattle.std.proofs.lemmas.List.{get_or-set_same}
use Rattle.std.proofs.lemmas.Option.{none-some}
use Rattle.ipc_call.specs.declared.calls.Call.{Call}
use Rattle.ipc_call.specs.declared.calls.Call.TheVariants as calls
use Rattle.ipc_history.specs.History.{run}
use Rattle.ipc_model.specs.Processes.{credentials_of}
use Rattle.ipc_model.specs.State.{creds_at, has_exited, is_waiting, pid_at, process_at, runs, thread_at}
use Rattle.ipc_server.specs.declared.peers.Conn.TheVariants.{Silent}
use Rattle.ipc_server.specs.declared.peers.Peer.{Peer}
use Rattle.ipc_server.specs.declared.peers.Role.{Role}
use Rattle.ipc_server.specs.declared.peers.Role.TheVariants.{Free, Lead, Lent, Child}
use Rattle.ipc_server.specs.Lives.{grants_fork, identity_of, is_begun, is_grown_up, lends, pid_of_child}
use Rattle.ipc_server.specs.Making.{event, made, makes, may_make}
use Rattle.ipc_server.specs.Servers.{Server, clients_of, conn_at, is_child, is_lead, lead_of, leads, peer_in, role_at, state, with_role}
use Rattle.life_laws.specs.Lives.{Begins, IsFree, IsThread, Renames}
use Rattle.life_laws.proofs.Changed.{runs-from, runs-parts}
use Rattle.life_laws.proofs.Pids.{one-run}
use Rattle.life_laws.proofs.Starts.{assume-run, begin-run, fork-run, name-run}
use Rattle.server_laws.specs.Ends.{IsKnown}
use Rattle.server_laws.proofs.Order.{IsKind, IsPeer, Ord, Step, exempt, exempt_ended, k_child, k_first, k_lead, k_lent, lives_known, may_idle, none, only, only_not, only_other, server_is, settle, step_never, step_then, turned}
use Rattle.server_laws.proofs.Ordering.{Good, flip, good_settled, good_then, idle_unlent, lends_good, only_is, lead_not_as, lead_not_ended, led_by}
use Rattle.server_laws.proofs.Others.{found_passes}
use Rattle.server_laws.proofs.Waiting.{ended_idle, idle_applied}

-- who isn't found isn't there
pub none_in : (p : ℕ → Bool) (a n : ℕ) → find p (range_with_len a n) ≡ None → (k : ℕ) → a ≤ k → k < a + n → p k ≡ false
none_in p a zero missing k above below = absurd (omega (arith, above, below))
none_in p a (suc n) missing k above below = by (p a) refl missing (none_in p (a + 1) n)
  where
    at_or_above : (b : Bool) → (a == k) ≡ b → p a ≡ false → (a + 1 ≤ k → p k ≡ false) → p k ≡ false
    at_or_above true same fails rest = ap p (sym (eqb-true a k same)) ∙ fails
    at_or_above false other fails rest = rest (let apart : a ≢ k = (λ same. true≢false (sym (eq-eqb a k same) ∙ other)) in omega (arith, above, apart))

    by : (b : Bool) → p a ≡ b → cond b (Some a) (find p (range_with_len (a + 1) n)) ≡ None
        → (find p (range_with_len (a + 1) n) ≡ None → (k : ℕ) → a + 1 ≤ k → k < a + 1 + n → p k ≡ false) → p k ≡ false
    by true is found rest = absurd (none-some a (sym found))
    by false is found rest = at_or_above (a == k) refl is (λ more. rest found k more (omega (arith, below)))

is_lead_is : (r : Role) → is_lead r ≡ true → r ≡ Lead
is_lead_is Lead is = refl
is_lead_is Free is = absurd (false≢true is)
is_lead_is (Lent conn) is = absurd (false≢true is)
is_lead_is (Child token euid) is = absurd (false≢true is)

module _ (s : Server) (pid lead : ℕ) where
  leads_so : has_exited (state s) lead ≡ false → role_at s lead ≡ Lead → pid_at (state s) lead ≡ pid → leads s pid lead ≡ true
  leads_so live role is =
      ap (λ (b : Bool). not b && (pid_at (state s) lead == pid) && is_lead (role_at s lead)) live
      ∙ ap (λ (b : Bool). not false && b && is_lead (role_at s lead)) (eq-eqb (pid_at (state s) lead) pid is)
      ∙ ap (λ (r : Role). not false && true && is_lead r) role

  pub record IsLead : Type 0 where
    pub lives : has_exited (state s) lead ≡ false
    pub pid_is : pid_at (state s) lead ≡ pid
    pub role : role_at s lead ≡ Lead

  pub found_lead : lead_of s pid ≡ Some lead → IsLead
  found_lead is =
      let passes = found_passes (leads s pid) (clients_of s) lead is in
      let outer = and_parts (not (has_exited (state s) lead) && (pid_at (state s) lead == pid)) (is_lead (role_at s lead)) passes in
      let inner = and_parts (not (has_exited (state s) lead)) (pid_at (state s) lead == pid) outer.0 in
      record { lives = not-true (has_exited (state s) lead) inner.0; pid_is = eqb-true (pid_at (state s) lead) pid inner.1; role = is_lead_is (role_at s lead) outer.1 }

  pub no_lead : lead_of s pid ≡ None → has_exited (state s) lead ≡ false → role_at s lead ≡ Lead → pid_at (state s) lead ≡ pid → ⊥
  no_lead missing live role is =
      let known = lives_known s.history lead live in
      let fails = none_in (leads s pid) 0 (length s.history.clients) missing lead (omega arith) (omega (arith, known)) in
      true≢false (sym (leads_so live role is) ∙ fails)

-- a pid that no lead has
pub free_pid : (s : Server) (pid : ℕ) → Ord none s → lead_of s pid ≡ None → pid < 2147483648 → IsFree (run s.history) pid
free_pid s pid o missing few r live same = by (o.kinds r refl live)
  where
    by : IsKind s.history s.conns s.roles r → ⊥
    by (k_first is) = let first = o.first.pid_is in let here = ap (λ (k : ℕ). pid_at (state s) k) is in absurd (omega (arith, first, here, same, few))
    by (k_lead role low) = no_lead s pid r missing live role same
    by (k_lent conn peer seq role there) =
        let own = o.lent conn peer r seq there in
        no_lead s pid own.led.lead missing own.led.lives own.led.role (own.led.pid_is ∙ sym own.pid_is ∙ same)
    by (k_child token euid role high) = absurd (omega (arith, high, same, few))

-- that of an announced child is its alone
pub child_alone : (s : Server) (child : ℕ) → Ord none s → (r : ℕ) → has_exited (state s) r ≡ false → pid_at (state s) r ≡ pid_of_child child → r ≡ child
child_alone s child o r live same = by (o.kinds r refl live)
  where
    by : IsKind s.history s.conns s.roles r → r ≡ child
    by (k_first is) = let first = o.first.pid_is in let here = ap (λ (k : ℕ). pid_at (state s) k) is in omega (arith, first, here, same, is)
    by (k_lead role low) = absurd (omega (arith, low, same))
    by (k_lent conn peer seq role there) =
        let own = (o.lent conn peer r seq there).pid_is in
        let few = (o.peers conn peer (ap peer_in there)).few in
        absurd (omega (arith, own, few, same))
    by (k_child token euid role high) = omega (arith, high, same)

-- a child's pid
pub child_pid : (s : Server) (child token euid : ℕ) → Ord none s → has_exited (state s) child ≡ false → role_at s child ≡ Child token euid → pid_at (state s) child ≡ pid_of_child child
child_pid s child token euid o live role = by (o.kinds child refl live)
  where
    by : IsKind s.history s.conns s.roles child → pid_at (state s) child ≡ pid_of_child child
    by (k_first is) = let two : Free ≡ Child token euid = sym o.first.role ∙ ap (λ (k : ℕ). role_at s k) (sym is) ∙ role in cc
    by (k_lead other low) = let two : Lead ≡ Child token euid = sym other ∙ role in cc
    by (k_lent conn peer seq other there) = let two : Lent conn ≡ Child token euid = sym other ∙ role in cc
    by (k_child t e other high) = high

-- a process begins
module _ (now lead : ℕ) (peer : Peer) (s : Server) (o : Ord none s) (free : has_exited (state s) lead ≡ true) (known : lead < length s.history.clients)
    (is_peer : IsPeer peer) (missing : lead_of s peer.pid ≡ None) where
  abbrev begin : Call
  begin = calls.Begin peer.pid (identity_of peer.creds)

  abbrev begun : Server
  begun = made now lead begin s

  abbrev founded : Server
  founded = with_role begun lead Lead

  start : Ord (only lead) s
  start = exempt_ended s lead o free

  idle : is_waiting (state s) lead ≡ false
  idle = ended_idle s.history lead free

  pub may_begin : may_make s lead ≡ true
  may_begin i = lt-ltb lead (length s.history.clients) known i && not (idle i)

  begins : Begins s.history (event now lead begin) lead (run s.history).next peer.pid (credentials_of (identity_of peer.creds))
  begins = begin-run s.history now lead peer.pid (identity_of peer.creds) known free is_peer.some is_peer.groups (free_pid s peer.pid o missing is_peer.few)

  first_step : Step (only lead) s begun
  first_step = step_never (only lead) s now lead begin start may_begin (λ r out. (flip lead r out, refl, flip lead r out, flip lead r out)) (flip lead 0 start.first.outside) refl

  pub step_founded : Step (only lead) s founded
  step_founded = step_then first_step (turned begun lead Lead first_step.ord)

  pub role_founded : role_at founded lead ≡ Lead
  role_founded = get_or-set_same s.roles lead Lead Free (let many = o.many in omega (arith, many, known))

  pub lead_founded : IsLead founded peer.pid lead
  lead_founded = record { lives = begins.thread.lives; pid_is = begins.thread.pid; role = role_founded }

  pub founds_good : Good s founded
  founds_good =
      let idle_now = idle_applied s now lead begin o.legal may_begin refl lead idle in
      let low = is_peer.few in
      let pid = begins.thread.pid in
      good_settled none (only lead) s founded step_founded.lives step_founded.roles
      (settle founded lead step_founded.ord (λ waits. absurd (true≢false (sym waits ∙ idle_now))) (λ live. k_lead role_founded (omega (arith, low, pid))))
      (λ r in_it live child. true≢false (sym child ∙ ap (λ (k : ℕ). is_child (role_at founded k)) (only_is lead r in_it) ∙ ap is_child role_founded))
      (led_by none (only lead) s founded step_founded.lives step_founded.pids step_founded.roles (lead_not_ended s lead free))

pub begun_good : (now conn : ℕ) (peer : Peer) (seq lead client : ℕ) (s : Server) → Ord none s → conn_at s conn ≡ Silent peer → IsPeer peer → has_exited (state s) lead ≡ true → lead < length s.history.clients
    → has_exited (state s) client ≡ true → client < length s.history.clients → client ≢ lead → lead_of s peer.pid ≡ None → Good s (is_begun now conn peer seq lead client s).server
begun_good now conn peer seq lead client s o silent is_peer free known free_too known_too other missing =
    let u = founded now lead peer s o free known is_peer missing in
    let good = founds_good now lead peer s o free known is_peer missing in
    let leads_it = lead_founded now lead peer s o free known is_peer missing in
    let step = step_founded now lead peer s o free known is_peer missing in
    subst (λ (y : Server). Good s (lends now conn peer seq lead client (with_role y lead Lead)).server) (sym (server_is now lead (calls.Begin peer.pid (identity_of peer.creds)) s (may_begin now lead peer s o free known is_peer missing)))
    (good_then s u (lends now conn peer seq lead client u).server good
    (lends_good now conn peer seq lead client u good.ord silent leads_it.lives leads_it.role leads_it.pid_is (step.lives client (only_not lead client other) ∙ free_too) known_too))

-- an announced child shows up
module _ (now child token euid : ℕ) (peer : Peer) (s : Server) (o : Ord none s) (live : has_exited (state s) child ≡ false) (role : role_at s child ≡ Child token euid)
    (is_peer : IsPeer peer) (missing : lead_of s peer.pid ≡ None) where
  abbrev name : Call
  name = calls.Name peer.pid

  abbrev assumes : Call
  assumes = calls.Assume (identity_of peer.creds)

  abbrev named : Server
  named = made now child name s

  abbrev assumed : Server
  assumed = made now child assumes named

  abbrev shown : Server
  shown = with_role assumed child Lead

  known_child : child < length s.history.clients
  known_child = lives_known s.history child live

  zero_apart : child ≢ 0
  zero_apart same = let two : Free ≡ Child token euid = sym o.first.role ∙ ap (λ (k : ℕ). role_at s k) (sym same) ∙ role in cc

  start_child : Ord (only child) s
  start_child = exempt s child o zero_apart
      (λ conn p r n is same. (let two : Lent conn ≡ Child token euid = sym (o.lent conn p r n is).role ∙ ap (λ (k : ℕ). role_at s k) same ∙ role in cc))
      (λ lead lives is same. (let two : Lead ≡ Child token euid = sym is ∙ ap (λ (k : ℕ). role_at s k) same ∙ role in cc))

  idle_child : is_waiting (state s) child ≡ false
  idle_child = idle_unlent s child o refl (λ c is. (let two : Child token euid ≡ Lent c = sym role ∙ is in cc))

  pub may_name : may_make s child ≡ true
  may_name = may_idle s child live idle_child

  own_pid : pid_at (state s) child ≡ pid_of_child child
  own_pid = child_pid s child token euid o live role

  renames : Renames s.history (event now child name) (process_at (state s) child) peer.pid
  renames = name-run s.history now child live peer.pid is_peer.some (λ r lives same. absurd (free_pid s peer.pid o missing is_peer.few r lives same))

  unnamed : (r : ℕ) → only child r ≡ false → (b : Bool) → runs (process_at (state s) child) (thread_at (state s) r) ≡ b → b ≡ false
  unnamed r out false is = refl
  unnamed r out true is =
      let parts = runs-parts (process_at (state s) child) (thread_at (state s) r) is in
      let same = one-run s.history r child parts.1 live parts.0 in
      absurd (only_other child r out (child_alone s child o r parts.1 (same ∙ own_pid)))

  step_named : Step (only child) s named
  step_named = step_never (only child) s now child name start_child may_name
      (λ r out. (refl, refl, unnamed r out (runs (process_at (state s) child) (thread_at (state s) r)) refl, refl)) refl refl

  thread_named : IsThread (state named) child (process_at (state s) child) peer.pid (creds_at (state s) child)
  thread_named = renames.threads child (runs-from (process_at (state s) child) (thread_at (state s) child) refl live)

  idle_named : is_waiting (state named) child ≡ false
  idle_named = idle_applied s now child name o.legal may_name refl child idle_child

  pub may_assume : may_make named child ≡ true
  may_assume = may_idle named child thread_named.lives idle_named

  takes : Begins named.history (event now child assumes) child (process_at (state named) child) (pid_at (state named) child) (credentials_of (identity_of peer.creds))
  takes = assume-run named.history now child thread_named.lives (identity_of peer.creds) known_child is_peer.groups

  step_assumed : Step (only child) named assumed
  step_assumed = step_never (only child) named now child assumes step_named.ord may_assume (λ r out. (refl, refl, refl, flip child r out)) (flip child 0 start_child.first.outside) refl

  pub step_shown : Step (only child) s shown
  step_shown = step_then step_named (step_then step_assumed (turned assumed child Lead step_assumed.ord))

  role_shown : role_at shown child ≡ Lead
  role_shown = get_or-set_same s.roles child Lead Free (let many = o.many in let known = known_child in omega (arith, many, known))

  pub lead_shown : IsLead shown peer.pid child
  lead_shown = record { lives = takes.thread.lives; pid_is = takes.thread.pid ∙ thread_named.pid; role = role_shown }

  pub shows_good : Good s shown
  shows_good =
      let idle_now = idle_applied named now child assumes step_named.ord.legal may_assume refl child idle_named in
      let low = is_peer.few in
      let pid = lead_shown.pid_is in
      good_settled none (only child) s shown step_shown.lives step_shown.roles
      (settle shown child step_shown.ord (λ waits. absurd (true≢false (sym waits ∙ idle_now))) (λ lives. k_lead role_shown (omega (arith, low, pid))))
      (λ r in_it lives is. true≢false (sym is ∙ ap (λ (k : ℕ). is_child (role_at shown k)) (only_is child r in_it) ∙ ap is_child role_shown))
      (led_by none (only child) s shown step_shown.lives step_shown.pids step_shown.roles (lead_not_as s child (Child token euid) role refl))

pub grown_good : (now conn : ℕ) (peer : Peer) (seq child token euid client : ℕ) (s : Server) → Ord none s → conn_at s conn ≡ Silent peer → IsPeer peer → has_exited (state s) child ≡ false → role_at s child ≡ Child token euid
    → has_exited (state s) client ≡ true → client < length s.history.clients → lead_of s peer.pid ≡ None → Good s (is_grown_up now conn peer seq child client s).server
grown_good now conn peer seq child token euid client s o silent is_peer live role free known missing =
    let u = shown now child token euid peer s o live role is_peer missing in
    let good = shows_good now child token euid peer s o live role is_peer missing in
    let leads_it = lead_shown now child token euid peer s o live role is_peer missing in
    let step = step_shown now child token euid peer s o live role is_peer missing in
    let assume = calls.Assume (identity_of peer.creds) in
    let path : (makes now child assume (makes now child (calls.Name peer.pid) s).server).server ≡ assumed now child token euid peer s o live role is_peer missing =
    ap (λ (y : Server). (makes now child assume y).server) (server_is now child (calls.Name peer.pid) s (may_name now child token euid peer s o live role is_peer missing))
    ∙ server_is now child assume (named now child token euid peer s o live role is_peer missing) (may_assume now child token euid peer s o live role is_peer missing) in
    subst (λ (y : Server). Good s (lends now conn peer seq child client (with_role y child Lead)).server) (sym path)
    (good_then s u (lends now conn peer seq child client u).server good
    (lends_good now conn peer seq child client u good.ord silent leads_it.lives leads_it.role leads_it.pid_is
    (step.lives client (only_not child client (λ same. true≢false (sym free ∙ ap (λ (k : ℕ). has_exited (state s) k) same ∙ live))) ∙ free) known))

-- a child is announced
module _ (now conn euid seq token lead child : ℕ) (s : Server) (o : Ord none s) (lead_lives : has_exited (state s) lead ≡ false) (lead_role : role_at s lead ≡ Lead)
    (free : has_exited (state s) child ≡ true) (known : child < length s.history.clients) where
  abbrev fork : Call
  fork = calls.Fork child (pid_of_child child)

  abbrev forked : Server
  forked = made now lead fork s

  abbrev announced : Server
  announced = with_role forked child (Child token euid)

  start_fork : Ord (only child) s
  start_fork = exempt_ended s child o free

  may_fork : may_make s lead ≡ true
  may_fork = may_idle s lead lead_lives (idle_unlent s lead o refl (λ c is. (let two : Lead ≡ Lent c = sym lead_role ∙ is in cc)))

  forks : Begins s.history (event now lead fork) child (run s.history).next (pid_of_child child) (creds_at (state s) lead)
  forks = fork-run s.history now lead lead_lives child (pid_of_child child) known free (omega arith)
      (λ r live same. true≢false (sym free ∙ ap (λ (k : ℕ). has_exited (state s) k) (sym (child_alone s child o r live same)) ∙ live))

  step_forked : Step (only child) s forked
  step_forked = step_never (only child) s now lead fork start_fork may_fork (λ r out. (flip child r out, refl, flip child r out, flip child r out)) (flip child 0 start_fork.first.outside) refl

  pub step_announced : Step (only child) s announced
  step_announced = step_then step_forked (turned forked child (Child token euid) step_forked.ord)

  pub role_announced : role_at announced child ≡ Child token euid
  role_announced = get_or-set_same s.roles child (Child token euid) Free (let many = o.many in omega (arith, many, known))

  announced_ord : Ord none announced
  announced_ord = settle announced child step_announced.ord
      (λ waits. absurd (true≢false (sym waits ∙ idle_applied s now lead fork o.legal may_fork refl child (ended_idle s.history child free))))
      (λ live. k_child token euid role_announced forks.thread.pid)

  pub went_announced : (grants_fork conn seq token child euid (makes now lead fork s).server).server ≡ announced
  went_announced = ap (λ (y : Server). with_role y child (Child token euid)) (server_is now lead fork s may_fork)

  pub ord_announced : Ord none announced
  ord_announced = announced_ord

  pub led_announced : (pid : ℕ) → none pid ≡ false → IsKnown s pid → IsKnown announced pid
  led_announced = led_by none (only child) s announced step_announced.lives step_announced.pids step_announced.roles (lead_not_ended s child free)
