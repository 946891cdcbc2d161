-- Each event leaves a server so.
use Rattle.std.proofs.Common.{◌≡◌, ◌≢◌, ℕ, ◌<◌, Bool, true, false, List, Option, Some, None, length, refl, sym, ap, ◌∙◌, arith, subst}
use Rattle.std.specs.Prelude.{◌==◌, ◌&&◌, not, is_some, if◌then◌else◌}
use Rattle.std.specs.List.{list_any}
use Rattle.std.proofs.lemmas.Bool.{eq-eqb, eqb-true, ne_eqb, true≢false}
use Rattle.std.proofs.lemmas.List.{get_or-set_other, get_or-set_same}
use Rattle.ipc_call.specs.declared.calls.Call.{Call}
use Rattle.ipc_call.specs.declared.calls.Call.TheVariants as calls
use Rattle.ipc_history.specs.History.{History}
use Rattle.ipc_model.specs.State.{State, Thread, creds_at, has_exited, is_waiting, pid_at, process_at}
use Rattle.ipc_server.specs.declared.peers.Conn.{Conn}
use Rattle.ipc_server.specs.declared.peers.Conn.TheVariants.{Absent, Silent, Member}
use Rattle.ipc_server.specs.declared.peers.Peer.{Peer}
use Rattle.ipc_server.specs.declared.peers.Role.{Role}
use Rattle.ipc_server.specs.declared.peers.Role.TheVariants.{Free, Lead, Lent}
use Rattle.ipc_server.specs.declared.outputs.Output.TheVariants as outputs
use Rattle.ipc_server.specs.Going.{says, stays}
use Rattle.ipc_server.specs.Lives.{has_attached, identity_of, interrupts, is_let_in, is_member_of, leaves, lends, wonders}
use Rattle.ipc_server.specs.Making.{event, made, makes, may_make}
use Rattle.ipc_server.specs.Servers.{Server, conn_at, is_child, is_member, lead_of, peer_in, role_at, state, with_conn, with_role, is_lead}
use Rattle.ipc_model.specs.Processes.{credentials_of}
use Rattle.life_laws.specs.Lives.{Begins}
use Rattle.life_laws.proofs.Interrupted.{interrupt-run}
use Rattle.life_laws.proofs.Starts.{assume-run, clone-run, exit-run}
use Rattle.server_laws.specs.Ends.{IsKnown}
use Rattle.server_laws.proofs.Conns.{gone_member, gone_peer, set_gone, set_here}
use Rattle.server_laws.proofs.Order.{IsKind, IsLed, IsLentIn, IsMember, IsPeer, Ord, Step, exempt_ended, first_may, k_child, k_first, k_lead, k_lent, lives_known, may_idle, none, only, only_not, only_other, role_in, server_is, settle_ended, step_never, step_same, step_then, turned}
use Rattle.server_laws.proofs.Waiting.{ended_idle, idle_applied}

-- no child is announced more
abbrev pub IsNoMore : Server → Server → Type 0
IsNoMore s t = (r : ℕ) → has_exited (state t) r ≡ false → is_child (role_at t r) ≡ true → (has_exited (state s) r ≡ false) × (role_at t r ≡ role_at s r)

-- so it is, and processes are known still, but for some
pub record GoodBut (D : ℕ → Bool) (s t : Server) : Type 0 where
  pub ord : Ord none t
  pub grew : IsNoMore s t
  pub led : (pid : ℕ) → D pid ≡ false → IsKnown s pid → IsKnown t pid

abbrev pub Good : Server → Server → Type 0
Good s t = GoodBut none s t

-- where the leads are of those of which something is said
pub led_by : (D X : ℕ → Bool) (s t : Server) → ((r : ℕ) → X r ≡ false → has_exited (state t) r ≡ has_exited (state s) r) → ((r : ℕ) → X r ≡ false → pid_at (state t) r ≡ pid_at (state s) r)
    → ((r : ℕ) → X r ≡ false → role_at t r ≡ role_at s r) → ((pid : ℕ) → D pid ≡ false → (known : IsKnown s pid) → X known.lead ≡ false) → (pid : ℕ) → D pid ≡ false → IsKnown s pid → IsKnown t pid
led_by D X s t same pids roles leads pid other known =
    let out = leads pid other known in
    record { lead = known.lead; lives = same known.lead out ∙ known.lives; role = roles known.lead out ∙ known.role; pid_is = pids known.lead out ∙ known.pid_is }

pub good_step : (s t : Server) → Step none s t → Good s t
good_step s t step = record {
  ord = step.ord;
  grew = λ r lives child. (sym (step.lives r refl) ∙ lives, step.roles r refl);
  led = led_by none none s t step.lives step.pids step.roles (λ pid other known. refl);
}

pub good_settled : (D X : ℕ → Bool) (s t : Server) → ((r : ℕ) → X r ≡ false → has_exited (state t) r ≡ has_exited (state s) r) → ((r : ℕ) → X r ≡ false → role_at t r ≡ role_at s r) → Ord none t
    → ((r : ℕ) → X r ≡ true → has_exited (state t) r ≡ false → is_child (role_at t r) ≡ true → ⊥) → ((pid : ℕ) → D pid ≡ false → IsKnown s pid → IsKnown t pid) → GoodBut D s t
good_settled D X s t same roles ord never led = record { ord = ord; grew = λ r. by r (X r) refl; led = led }
  where
    by : (r : ℕ) (b : Bool) → X r ≡ b → has_exited (state t) r ≡ false → is_child (role_at t r) ≡ true → (has_exited (state s) r ≡ false) × (role_at t r ≡ role_at s r)
    by r true in_it lives child = absurd (never r in_it lives child)
    by r false out lives child = (sym (same r out) ∙ lives, roles r out)

pub good_then : (s t u : Server) → Good s t → Good t u → Good s u
good_then s t u first next = record {
  ord = next.ord;
  grew = λ r lives child. (
      let later = next.grew r lives child in
      let before = first.grew r later.0 (ap is_child (sym later.1) ∙ child) in
      (before.0, later.1 ∙ before.1));
  led = λ pid other known. next.led pid refl (first.led pid refl known);
}

-- a lead is none that has ended, nor one with another role
pub lead_not_ended : (s : Server) (x : ℕ) → has_exited (state s) x ≡ true → (pid : ℕ) → none pid ≡ false → (known : IsKnown s pid) → only x known.lead ≡ false
lead_not_ended s x ended pid other known = only_not x known.lead (λ same. true≢false (sym ended ∙ ap (λ (k : ℕ). has_exited (state s) k) (sym same) ∙ known.lives))

pub lead_not_as : (s : Server) (x : ℕ) (role : Role) → role_at s x ≡ role → is_lead role ≡ false → (pid : ℕ) → none pid ≡ false → (known : IsKnown s pid) → only x known.lead ≡ false
lead_not_as s x role is not_lead pid other known =
    only_not x known.lead (λ same. true≢false (ap is_lead (sym known.role ∙ ap (λ (k : ℕ). role_at s k) same ∙ is) ∙ not_lead))

-- who isn't lent to a connection waits for nothing
pub idle_unlent : {X : ℕ → Bool} (s : Server) (k : ℕ) → Ord X s → X k ≡ false → ((conn : ℕ) → role_at s k ≢ Lent conn) → is_waiting (state s) k ≡ false
idle_unlent s k o out unlent = by (is_waiting (state s) k) refl
  where
    by : (b : Bool) → is_waiting (state s) k ≡ b → is_waiting (state s) k ≡ false
    by false is = is
    by true is = let there = o.waits k out is in absurd (unlent there.0 (o.lent there.0 there.1 k there.2 there.3).role)

-- two connections don't have one client
one_conn : {X : ℕ → Bool} (s : Server) (o : Ord X s) (c d : ℕ) (p q : Peer) (client m n : ℕ) → conn_at s c ≡ Member p client m → conn_at s d ≡ Member q client n → c ≡ d
one_conn s o c d p q client m n here there =
    let two : Lent c ≡ Lent d = sym (o.lent c p client m here).role ∙ (o.lent d q client n there).role in cc

pub flip : (x r : ℕ) → only x r ≡ false → (x == r) ≡ false
flip x r out = ne_eqb x r (λ same. only_other x r out (sym same))

-- A CONNECTION GOES

module _ (s : Server) (conn : ℕ) (o : Ord none s) where
  abbrev left : Server
  left = with_conn s conn Absent

  stays_there : (d : ℕ) (peer : Peer) (client seq : ℕ) → d ≢ conn → conn_at s d ≡ Member peer client seq → conn_at left d ≡ Member peer client seq
  stays_there d peer client seq other is = get_or-set_other s.conns conn d Absent Absent other ∙ is

  -- one that has no client
  pub unlent_left : is_member (conn_at s conn) ≡ false → Step none s left
  unlent_left plain = record {
    ord = record {
      legal = o.legal;
      many = o.many;
      first = o.first;
      waits = λ r out waits. (let there = o.waits r out waits in (there.0, there.1, there.2, stays_there there.0 there.1 r there.2 (apart there.0 there.1 r there.2 there.3) there.3));
      lent = λ d peer client seq is. o.lent d peer client seq (gone_member s.conns conn d peer client seq is);
      peers = λ d peer is. o.peers d peer (gone_peer s.conns conn d peer is);
      kinds = λ r out lives. kind r (o.kinds r out lives);
    };
    lives = λ r out. refl;
    pids = λ r out. refl;
    roles = λ r out. refl;
  }
    where
      apart : (d : ℕ) (peer : Peer) (client seq : ℕ) → conn_at s d ≡ Member peer client seq → d ≢ conn
      apart d peer client seq is same = true≢false (sym (ap is_member is) ∙ ap (λ (k : ℕ). is_member (conn_at s k)) same ∙ plain)

      kind : (r : ℕ) → IsKind s.history s.conns s.roles r → IsKind s.history left.conns s.roles r
      kind r (k_first is) = k_first is
      kind r (k_lead role pid) = k_lead role pid
      kind r (k_lent d peer seq role there) = k_lent d peer seq role (stays_there d peer r seq (apart d peer r seq there) there)
      kind r (k_child token euid role pid) = k_child token euid role pid

  -- one that has a client, of which nothing is said then
  module _ (peer : Peer) (client seq : ℕ) (there : conn_at s conn ≡ Member peer client seq) where
    mine : IsLentIn none s.history s.roles conn peer client
    mine = o.lent conn peer client seq there

    apart_of : (d : ℕ) (p : Peer) (r n : ℕ) → r ≢ client → conn_at s d ≡ Member p r n → d ≢ conn
    apart_of d p r n other is same =
        let two : Member p r n ≡ Member peer client seq = sym is ∙ ap (λ (k : ℕ). conn_at s k) same ∙ there in
        other (let one : r ≡ client = cc in one)

    other_client : (d : ℕ) (p : Peer) (r n : ℕ) → conn_at left d ≡ Member p r n → r ≢ client
    other_client d p r n is same =
        let was : conn_at s d ≡ Member p client n = gone_member s.conns conn d p r n is ∙ ap (λ (k : ℕ). Member p k n) same in
        let here = one_conn s o d conn p peer client n seq was there in
        let two : Absent ≡ Member p r n = sym (set_gone s.conns conn) ∙ ap (λ (k : ℕ). conn_at left k) (sym here) ∙ is in
        cc

    pub lent_left : Step (only client) s left
    lent_left = record {
      ord = record {
        legal = o.legal;
        many = o.many;
        first = record { outside = only_not client 0 zero_apart; lives = o.first.lives; role = o.first.role; pid_is = o.first.pid_is; admin = o.first.admin };
        waits = λ r out waits. (let at = o.waits r refl waits in (at.0, at.1, at.2, stays_there at.0 at.1 r at.2 (apart_of at.0 at.1 r at.2 (only_other client r out) at.3) at.3));
        lent = λ d p r n is. (let own = o.lent d p r n (gone_member s.conns conn d p r n is) in record {
          outside = only_not client r (other_client d p r n is);
          lives = own.lives;
          role = own.role;
          pid_is = own.pid_is;
          creds = own.creds;
          led = (let led = own.led in record { lead = led.lead; outside = only_not client led.lead (lead_apart led.lead led.role); lives = led.lives; role = led.role; pid_is = led.pid_is });
        });
        peers = λ d p is. o.peers d p (gone_peer s.conns conn d p is);
        kinds = λ r out lives. kind r (only_other client r out) (o.kinds r refl lives);
      };
      lives = λ r out. refl;
      pids = λ r out. refl;
      roles = λ r out. refl;
    }
      where
        zero_apart : 0 ≢ client
        zero_apart same = let two : Free ≡ Lent conn = sym o.first.role ∙ ap (λ (k : ℕ). role_in s.roles k) same ∙ mine.role in cc

        lead_apart : (lead : ℕ) → role_in s.roles lead ≡ Lead → lead ≢ client
        lead_apart lead role same = let two : Lead ≡ Lent conn = sym role ∙ ap (λ (k : ℕ). role_in s.roles k) same ∙ mine.role in cc

        kind : (r : ℕ) → r ≢ client → IsKind s.history s.conns s.roles r → IsKind s.history left.conns s.roles r
        kind r other (k_first is) = k_first is
        kind r other (k_lead role pid) = k_lead role pid
        kind r other (k_lent d p n role at) = k_lent d p n role (stays_there d p r n (apart_of d p r n other at) at)
        kind r other (k_child token euid role pid) = k_child token euid role pid

-- what its client waits for ends, and then its thread
record Rests (x : ℕ) (s t : Server) : Type 0 where
  step : Step (only x) s t
  idle : is_waiting (state t) x ≡ false
  lives : has_exited (state t) x ≡ false

rests_by : (now x : ℕ) (s : Server) → Ord (only x) s → has_exited (state s) x ≡ false → (b : Bool) → is_waiting (state s) x ≡ b
    → Rests x s (if b then makes now 0 (calls.InterruptThread x) s else stays s).server
rests_by now x s o lives false idle = record { step = step_same s o; idle = idle; lives = lives }
rests_by now x s o lives true waits =
    let may = first_may s o in
    let did = interrupt-run s.history now 0 o.first.lives o.first.admin x lives in
    subst (λ (t : Server). Rests x s t) (sym (server_is now 0 (calls.InterruptThread x) s may)) (record {
      step = step_never (only x) s now 0 (calls.InterruptThread x) o may (λ r out. (refl, refl, refl, refl)) refl refl;
      idle = did.waits;
      lives = ap (λ (u : State). has_exited u x) did.state ∙ lives;
    })

rests_interrupts : (now x : ℕ) (s : Server) → Ord (only x) s → has_exited (state s) x ≡ false → Rests x s (interrupts now x s).server
rests_interrupts now x s o lives = rests_by now x s o lives (is_waiting (state s) x) refl

record Ends (x : ℕ) (s t : Server) : Type 0 where
  step : Step (only x) s t
  ended : has_exited (state t) x ≡ true

ends_exit : (now x : ℕ) (s : Server) → Ord (only x) s → has_exited (state s) x ≡ false → is_waiting (state s) x ≡ false → Ends x s (makes now x calls.Exit s).server
ends_exit now x s o lives idle =
    let may = may_idle s x lives idle in
    let did = exit-run s.history now x lives (lives_known s.history x lives) in
    subst (λ (t : Server). Ends x s t) (sym (server_is now x calls.Exit s may)) (record {
      step = step_never (only x) s now x calls.Exit o may (λ r out. (refl, flip x r out, refl, refl)) refl refl;
      ended = ap (λ (t : Thread). t.has_ended) did.ended.thread;
    })

wonders_server : (pid : ℕ) (lead : Option ℕ) (s : Server) → (wonders pid lead s).server ≡ s
wonders_server pid None s = refl
wonders_server pid (Some lead) s = by (not (list_any (is_member_of pid) s.conns) && has_attached s lead)
  where
    by : (b : Bool) → (if b then says (outputs.Ask pid) s else stays s).server ≡ s
    by true = refl
    by false = refl

pub only_is : (x r : ℕ) → only x r ≡ true → r ≡ x
only_is x r is = eqb-true r x is

pub left_good : (now conn : ℕ) (s : Server) → Ord none s → (x : Conn) → conn_at s conn ≡ x → Good s (leaves now conn x s).server
left_good now conn s o Absent is = good_step s (with_conn s conn Absent) (unlent_left s conn o (ap is_member is))
left_good now conn s o (Silent peer) is = good_step s (with_conn s conn Absent) (unlent_left s conn o (ap is_member is))
left_good now conn s o (Member peer client seq) is =
    let t = with_conn s conn Absent in
    let left = lent_left s conn o peer client seq is in
    let lives = (o.lent conn peer client seq is).lives in
    let rested = rests_interrupts now client t left.ord lives in
    let u = (interrupts now client t).server in
    let ended = ends_exit now client u rested.step.ord rested.lives rested.idle in
    let v = (makes now client calls.Exit u).server in
    let step = step_then left (step_then rested.step ended.step) in
    let dead : (r : ℕ) → only client r ≡ true → has_exited (state v) r ≡ true = λ r in_it. ap (λ (k : ℕ). has_exited (state v) k) (only_is client r in_it) ∙ ended.ended in
    subst (λ (w : Server). Good s w) (sym (wonders_server peer.pid (lead_of v peer.pid) v))
    (good_settled none (only client) s v step.lives step.roles (settle_ended (only client) v step.ord dead) (λ r in_it lives child. true≢false (sym (dead r in_it) ∙ lives))
    (led_by none (only client) s v step.lives step.pids step.roles (lead_not_as s client (Lent conn) (o.lent conn peer client seq is).role refl)))

-- A CONNECTION IS LET IN

led_more : (X : ℕ → Bool) (h : History) (roles : List Role) (pid : ℕ) → IsLed X h roles pid → IsLed none h roles pid
led_more X h roles pid led = record { lead = led.lead; outside = refl; lives = led.lives; role = led.role; pid_is = led.pid_is }

module _ (s : Server) (conn : ℕ) (peer : Peer) (client seq : ℕ) (o : Ord (only client) s) (silent : conn_at s conn ≡ Silent peer)
    (lives : has_exited (state s) client ≡ false) (role : role_at s client ≡ Lent conn) (pid : pid_at (state s) client ≡ peer.pid)
    (creds : creds_at (state s) client ≡ peer.creds)
    (led : IsLed (only client) s.history s.roles peer.pid) where
  abbrev joined_in : Server
  joined_in = with_conn s conn (Member peer client seq)

  here : conn_at joined_in conn ≡ Member peer client seq
  here = set_here s.conns conn (Member peer client seq) (ap (λ (y : Conn). is_some (peer_in y)) silent)

  not_silent : (d : ℕ) (p : Peer) (r n : ℕ) → conn_at s d ≡ Member p r n → d ≢ conn
  not_silent d p r n is same = true≢false (sym (ap is_member is) ∙ ap (λ (k : ℕ). is_member (conn_at s k)) same ∙ ap is_member silent)

  still_there : (d : ℕ) (p : Peer) (r n : ℕ) → conn_at s d ≡ Member p r n → conn_at joined_in d ≡ Member p r n
  still_there d p r n is = get_or-set_other s.conns conn d (Member peer client seq) Absent (not_silent d p r n is) ∙ is

  new_lent : IsLentIn none s.history s.roles conn peer client
  new_lent = record { outside = refl; lives = lives; role = role; pid_is = pid; creds = creds; led = led_more (only client) s.history s.roles peer.pid led }

  lent_by : (d : ℕ) (p : Peer) (r n : ℕ) → conn_at joined_in d ≡ Member p r n → (b : Bool) → (d == conn) ≡ b → IsLentIn none s.history s.roles d p r
  lent_by d p r n is true same =
      let two : Member peer client seq ≡ Member p r n = sym here ∙ ap (λ (k : ℕ). conn_at joined_in k) (sym (eqb-true d conn same)) ∙ is in
      let one : peer ≡ p = cc in
      let own : client ≡ r = cc in
      subst (λ (k : ℕ). IsLentIn none s.history s.roles k p r) (sym (eqb-true d conn same))
      (subst (λ (q : Peer). IsLentIn none s.history s.roles conn q r) one (subst (λ (k : ℕ). IsLentIn none s.history s.roles conn peer k) own new_lent))
  lent_by d p r n is false other =
      let before = o.lent d p r n (sym (get_or-set_other s.conns conn d (Member peer client seq) Absent (λ same. true≢false (sym (eq-eqb d conn same) ∙ other))) ∙ is) in record {
        outside = refl;
        lives = before.lives;
        role = before.role;
        pid_is = before.pid_is;
        creds = before.creds;
        led = led_more (only client) s.history s.roles p.pid before.led;
      }

  peer_by : (d : ℕ) (p : Peer) → peer_in (conn_at joined_in d) ≡ Some p → (b : Bool) → (d == conn) ≡ b → IsPeer p
  peer_by d p is true same =
      o.peers conn p (ap peer_in silent ∙ sym (ap peer_in here) ∙ ap (λ (k : ℕ). peer_in (conn_at joined_in k)) (sym (eqb-true d conn same)) ∙ is)
  peer_by d p is false other =
      o.peers d p (ap peer_in (sym (get_or-set_other s.conns conn d (Member peer client seq) Absent (λ same. true≢false (sym (eq-eqb d conn same) ∙ other)))) ∙ is)

  kind_in : (r : ℕ) → IsKind s.history s.conns s.roles r → IsKind s.history joined_in.conns s.roles r
  kind_in r (k_first is) = k_first is
  kind_in r (k_lead role pid) = k_lead role pid
  kind_in r (k_lent d p n role there) = k_lent d p n role (still_there d p r n there)
  kind_in r (k_child token euid role pid) = k_child token euid role pid

  let_in : Ord none joined_in
  let_in = record {
    legal = o.legal;
    many = o.many;
    first = record { outside = refl; lives = o.first.lives; role = o.first.role; pid_is = o.first.pid_is; admin = o.first.admin };
    waits = λ r out. waits_in r (only client r) refl;
    lent = λ d p r n is. lent_by d p r n is (d == conn) refl;
    peers = λ d p is. peer_by d p is (d == conn) refl;
    kinds = λ r out. kinds_in r (only client r) refl;
  }
    where
      waits_in : (r : ℕ) (b : Bool) → only client r ≡ b → is_waiting (state s) r ≡ true → IsMember joined_in.conns r
      waits_in r true same waits = subst (λ (k : ℕ). IsMember joined_in.conns k) (sym (only_is client r same)) (conn, peer, seq, here)
      waits_in r false out waits = let there = o.waits r out waits in (there.0, there.1, there.2, still_there there.0 there.1 r there.2 there.3)

      kinds_in : (r : ℕ) (b : Bool) → only client r ≡ b → has_exited (state s) r ≡ false → IsKind s.history joined_in.conns s.roles r
      kinds_in r true same live = subst (λ (k : ℕ). IsKind s.history joined_in.conns s.roles k) (sym (only_is client r same)) (k_lent conn peer seq role here)
      kinds_in r false out live = kind_in r (o.kinds r out live)

-- a client that was free becomes one
module _ (now conn : ℕ) (peer : Peer) (seq lead client : ℕ) (s : Server) (o : Ord none s) (silent : conn_at s conn ≡ Silent peer)
    (lead_lives : has_exited (state s) lead ≡ false) (lead_role : role_at s lead ≡ Lead) (lead_pid : pid_at (state s) lead ≡ peer.pid)
    (free : has_exited (state s) client ≡ true) (known : client < length s.history.clients) where
  abbrev clone : Call
  clone = calls.Clone client

  abbrev assume : Call
  assume = calls.Assume (identity_of peer.creds)

  abbrev t : Server
  t = made now lead clone s

  abbrev u : Server
  u = made now client assume t

  abbrev v : Server
  v = with_role u client (Lent conn)

  start : Ord (only client) s
  start = exempt_ended s client o free

  apart : (client == 0) ≡ false
  apart = flip client 0 start.first.outside

  lead_out : only client lead ≡ false
  lead_out = only_not client lead (λ same. true≢false (sym free ∙ ap (λ (k : ℕ). has_exited (state s) k) (sym same) ∙ lead_lives))

  may_lead : may_make s lead ≡ true
  may_lead = may_idle s lead lead_lives (idle_unlent s lead o refl (λ c is. (let two : Lead ≡ Lent c = sym lead_role ∙ is in cc)))

  cloned : Step (only client) s t
  cloned = step_never (only client) s now lead clone start may_lead (λ r out. (flip client r out, refl, flip client r out, flip client r out)) apart refl

  clones : Begins s.history (event now lead clone) client (process_at (state s) lead) (pid_at (state s) lead) (creds_at (state s) lead)
  clones = clone-run s.history now lead lead_lives client known free

  idle_t : is_waiting (state t) client ≡ false
  idle_t = idle_applied s now lead clone o.legal may_lead refl client (ended_idle s.history client free)

  may_own : may_make t client ≡ true
  may_own = may_idle t client clones.thread.lives idle_t

  is_peer : IsPeer peer
  is_peer = o.peers conn peer (ap peer_in silent)

  assumed : Step (only client) t u
  assumed = step_never (only client) t now client assume cloned.ord may_own (λ r out. (refl, refl, refl, flip client r out)) apart refl

  assumes : Begins t.history (event now client assume) client (process_at (state t) client) (pid_at (state t) client) (credentials_of (identity_of peer.creds))
  assumes = assume-run t.history now client clones.thread.lives (identity_of peer.creds) known is_peer.groups

  became : Step (only client) u v
  became = turned u client (Lent conn) assumed.ord

  led_v : IsLed (only client) v.history v.roles peer.pid
  led_v = record {
    lead = lead;
    outside = lead_out;
    lives = (step_then cloned (step_then assumed became)).lives lead lead_out ∙ lead_lives;
    role = became.roles lead lead_out ∙ lead_role;
    pid_is = (step_then cloned (step_then assumed became)).pids lead lead_out ∙ lead_pid;
  }

  there_now : client < length u.roles
  there_now = let many = o.many in omega (arith, many, known)

  own_role : role_at v client ≡ Lent conn
  own_role = get_or-set_same s.roles client (Lent conn) Free there_now

  abbrev w : Server
  w = with_conn v conn (Member peer client seq)

  went_in : (lends now conn peer seq lead client s).server ≡ w
  went_in = ap (λ (y : Server). (is_let_in conn peer seq client (makes now client assume y).server).server) (server_is now lead clone s may_lead)
      ∙ ap (λ (y : Server). (is_let_in conn peer seq client y).server) (server_is now client assume t may_own)

  pub lends_good : Good s (lends now conn peer seq lead client s).server
  lends_good =
      let step = step_then cloned (step_then assumed became) in
      subst (λ (y : Server). Good s y) (sym went_in) (good_settled none (only client) s w step.lives step.roles
      (let_in v conn peer client seq became.ord silent assumes.thread.lives own_role (assumes.thread.pid ∙ clones.thread.pid ∙ lead_pid) assumes.thread.creds led_v)
      (λ r in_it lives child. true≢false (sym child ∙ ap (λ (k : ℕ). is_child (role_at v k)) (only_is client r in_it) ∙ ap is_child own_role))
      (led_by none (only client) s w step.lives step.pids step.roles (lead_not_ended s client free)))
