-- What holds of a server between its events, from the start on: who lives is the server's own client, the lead of a process, lent to
-- a connection of a process that has a lead, or an announced child; and who waits is lent.
use Rattle.std.proofs.Common.{◌≡◌, ◌≢◌, ℕ, zero, suc, ◌<◌, ◌≤◌, Bool, true, false, List, [], ◌∷◌, Some, length, refl, sym, ap, ◌∙◌, arith, get_or, subst}
use Rattle.std.specs.Prelude.{◌==◌, ◌&&◌, not, if◌then◌else◌, slice_index_or, slice_set}
use Rattle.std.proofs.lemmas.Bool.{eq-eqb, eqb-true, lt-ltb, ne_eqb, true≢false}
use Rattle.std.proofs.lemmas.List.{get_or-set_other, length-set}
use Rattle.ipc_call.specs.declared.calls.Call.{Call}
use Rattle.ipc_creds.specs.Credentials.{cap_sys_admin, groups_max, has_capability}
use Rattle.ipc_history.specs.History.{History, IsLegal, run}
use Rattle.ipc_model.specs.Decide.{can_wait}
use Rattle.ipc_model.specs.State.{Thread, creds_at, has_exited, is_waiting, no_thread, pid_at}
use Rattle.ipc_server.specs.declared.peers.Conn.{Conn}
use Rattle.ipc_server.specs.declared.peers.Conn.TheVariants.{Absent, Member}
use Rattle.ipc_server.specs.declared.peers.Peer.{Peer}
use Rattle.ipc_server.specs.declared.peers.Role.{Role}
use Rattle.ipc_server.specs.declared.peers.Role.TheVariants.{Free, Lead, Lent, Child}
use Rattle.ipc_server.specs.Going.{stays}
use Rattle.ipc_server.specs.Lives.{pid_of_child}
use Rattle.ipc_server.specs.Making.{applies, event, made, makes, may_make}
use Rattle.ipc_server.specs.Servers.{Server, conn_at, peer_in, role_at, state, with_role}
use Rattle.life_laws.specs.Lives.{is_begun_by, is_ended_by, takes_creds, takes_pid}
use Rattle.life_laws.proofs.Counted.{many-threads}
use Rattle.life_laws.proofs.Few.{creds-stay, life-stays, pid-stays}
use Rattle.server_laws.specs.Telling.{AreLent}
use Rattle.server_laws.proofs.Counts.{one}
use Rattle.server_laws.proofs.Waiting.{ended_idle, even_others, legal_made, one_true}

abbrev pub conn_in : List Conn → ℕ → Conn
conn_in conns conn = slice_index_or conns conn Absent

abbrev pub role_in : List Role → ℕ → Role
role_in roles client = slice_index_or roles client Free

abbrev pub IsMember : List Conn → ℕ → Type 0
IsMember conns client = (conn : ℕ) × (peer : Peer) × (seq : ℕ) × (conn_in conns conn ≡ Member peer client seq)

-- of some clients nothing is said: of those that begin or end just now
pub record IsLed (X : ℕ → Bool) (h : History) (roles : List Role) (pid : ℕ) : Type 0 where
  pub lead : ℕ
  pub outside : X lead ≡ false
  pub lives : has_exited (run h) lead ≡ false
  pub role : role_in roles lead ≡ Lead
  pub pid_is : pid_at (run h) lead ≡ pid

pub record IsLentIn (X : ℕ → Bool) (h : History) (roles : List Role) (conn : ℕ) (peer : Peer) (client : ℕ) : Type 0 where
  pub outside : X client ≡ false
  pub lives : has_exited (run h) client ≡ false
  pub role : role_in roles client ≡ Lent conn
  pub pid_is : pid_at (run h) client ≡ peer.pid
  pub creds : creds_at (run h) client ≡ peer.creds
  pub led : IsLed X h roles peer.pid

pub record IsFirst (X : ℕ → Bool) (h : History) (roles : List Role) : Type 0 where
  pub outside : X 0 ≡ false
  pub lives : has_exited (run h) 0 ≡ false
  pub role : role_in roles 0 ≡ Free
  pub pid_is : pid_at (run h) 0 ≡ 2147483648
  pub admin : has_capability (creds_at (run h) 0) cap_sys_admin ≡ true

pub record IsPeer (peer : Peer) : Type 0 where
  pub some : 0 < peer.pid
  pub few : peer.pid < 2147483648
  pub groups : length peer.creds.groups ≤ groups_max

pub data IsKind (h : History) (conns : List Conn) (roles : List Role) (client : ℕ) : Type 0 where
  k_first : client ≡ 0 → IsKind h conns roles client
  k_lead : role_in roles client ≡ Lead → pid_at (run h) client < 2147483648 → IsKind h conns roles client
  k_lent : (conn : ℕ) (peer : Peer) (seq : ℕ) → role_in roles client ≡ Lent conn → conn_in conns conn ≡ Member peer client seq → IsKind h conns roles client
  k_child : (token euid : ℕ) → role_in roles client ≡ Child token euid → pid_at (run h) client ≡ pid_of_child client → IsKind h conns roles client

pub record Ordered (X : ℕ → Bool) (h : History) (conns : List Conn) (roles : List Role) : Type 0 where
  pub legal : IsLegal h
  pub many : length roles ≡ length h.clients
  pub first : IsFirst X h roles
  pub waits : (client : ℕ) → X client ≡ false → is_waiting (run h) client ≡ true → IsMember conns client
  pub lent : (conn : ℕ) (peer : Peer) (client seq : ℕ) → conn_in conns conn ≡ Member peer client seq → IsLentIn X h roles conn peer client
  pub peers : (conn : ℕ) (peer : Peer) → peer_in (conn_in conns conn) ≡ Some peer → IsPeer peer
  pub kinds : (client : ℕ) → X client ≡ false → has_exited (run h) client ≡ false → IsKind h conns roles client

abbrev pub Ord : (ℕ → Bool) → Server → Type 0
Ord X s = Ordered X s.history s.conns s.roles

abbrev pub none : ℕ → Bool
none client = false

abbrev pub only : ℕ → ℕ → Bool
only x client = client == x

pub only_not : (x r : ℕ) → r ≢ x → only x r ≡ false
only_not x r other = ne_eqb r x other

pub only_other : (x r : ℕ) → only x r ≡ false → r ≢ x
only_other x r out same = true≢false (sym (eq-eqb r x same) ∙ out)

-- who lives is a client
below_there : (ts : List Thread) (k : ℕ) → (get_or ts k no_thread).has_ended ≡ false → k < length ts
below_there [] k lives = absurd (true≢false lives)
below_there (t ∷ ts) zero lives = omega arith
below_there (t ∷ ts) (suc k) lives = let rest = below_there ts k lives in omega (arith, rest)

pub lives_known : (h : History) (k : ℕ) → has_exited (run h) k ≡ false → k < length h.clients
lives_known h k lives = let there = below_there (run h).threads k lives in let many = many-threads h in omega (arith, there, many)

-- such a server has its clients lent as they should be
pub ordered_lent : (s : Server) → Ord none s → AreLent s
ordered_lent s o = record {
  legal = o.legal;
  lent = λ conn peer client seq is. (let mine = o.lent conn peer client seq is in record { known = lives_known s.history client mine.lives; lives = mine.lives; role = mine.role });
  alone = λ conn client waits role. (
      let there = o.waits client refl waits in
      let own = (o.lent there.0 there.1 client there.2 there.3).role in
      let same : there.0 ≡ conn = same_lent there.0 conn (sym own ∙ role) in
      (there.1, there.2, ap (λ (k : ℕ). conn_in s.conns k) (sym same) ∙ there.3));
}
  where
    same_lent : (a b : ℕ) → Lent a ≡ Lent b → a ≡ b
    same_lent a b is = cc

-- the server's own client can always call
pub first_idle : {X : ℕ → Bool} {h : History} {conns : List Conn} {roles : List Role} → Ordered X h conns roles → is_waiting (run h) 0 ≡ false
first_idle {X} {h} {conns} {roles} o = by (is_waiting (run h) 0) refl
  where
    by : (b : Bool) → is_waiting (run h) 0 ≡ b → is_waiting (run h) 0 ≡ false
    by false is = is
    by true is =
        let there = o.waits 0 o.first.outside is in
        let own = (o.lent there.0 there.1 0 there.2 there.3).role in
        let two : Free ≡ Lent there.0 = sym o.first.role ∙ own in cc

pub may_idle : (s : Server) (k : ℕ) → has_exited (state s) k ≡ false → is_waiting (state s) k ≡ false → may_make s k ≡ true
may_idle s k lives idle i = lt-ltb k (length s.history.clients) (lives_known s.history k lives) i && not (idle i)

pub first_may : {X : ℕ → Bool} (s : Server) → Ord X s → may_make s 0 ≡ true
first_may s o = may_idle s 0 o.first.lives (first_idle o)

-- what is so from one server to the next of clients of which something is said
pub record Step (X : ℕ → Bool) (s t : Server) : Type 0 where
  pub ord : Ord X t
  pub lives : (client : ℕ) → X client ≡ false → has_exited (state t) client ≡ has_exited (state s) client
  pub pids : (client : ℕ) → X client ≡ false → pid_at (state t) client ≡ pid_at (state s) client
  pub roles : (client : ℕ) → X client ≡ false → role_at t client ≡ role_at s client

pub step_same : {X : ℕ → Bool} (s : Server) → Ord X s → Step X s s
step_same s o = record { ord = o; lives = λ r out. refl; pids = λ r out. refl; roles = λ r out. refl }

pub step_then : {X : ℕ → Bool} {s t u : Server} → Step X s t → Step X t u → Step X s u
step_then first next = record {
  ord = next.ord;
  lives = λ r out. next.lives r out ∙ first.lives r out;
  pids = λ r out. next.pids r out ∙ first.pids r out;
  roles = λ r out. next.roles r out ∙ first.roles r out;
}

-- an event that changes none of them
abbrev pub IsLeft : History → ℕ → Call → ℕ → Type 0
IsLeft h k call r =
    (is_begun_by k call r ≡ false) × (is_ended_by (run h) k call r ≡ false) × (takes_pid (run h) k call r ≡ false)
    × (takes_creds k call r ≡ false)

module _ (X : ℕ → Bool) (s : Server) (now k : ℕ) (call : Call) (o : Ord X s) (may : may_make s k ≡ true)
    (few : (r : ℕ) → X r ≡ false → IsLeft s.history k call r) (apart : takes_creds k call 0 ≡ false)
    (still : (r : ℕ) → X r ≡ false → is_waiting (state (made now k call s)) r ≡ true → IsMember s.conns r) where
  abbrev h : History
  h = s.history

  abbrev g : History
  g = (made now k call s).history

  lives_same : (r : ℕ) → X r ≡ false → has_exited (run g) r ≡ has_exited (run h) r
  lives_same r out = let left = few r out in life-stays h (event now k call) r left.0 left.1

  pid_same : (r : ℕ) → X r ≡ false → pid_at (run g) r ≡ pid_at (run h) r
  pid_same r out = pid-stays h (event now k call) r (few r out).2

  led_made : (pid : ℕ) → IsLed X h s.roles pid → IsLed X g s.roles pid
  led_made pid led = record {
    lead = led.lead;
    outside = led.outside;
    lives = lives_same led.lead led.outside ∙ led.lives;
    role = led.role;
    pid_is = pid_same led.lead led.outside ∙ led.pid_is;
  }

  kind_made : (r : ℕ) → X r ≡ false → IsKind h s.conns s.roles r → IsKind g s.conns s.roles r
  kind_made r out (k_first is) = k_first is
  kind_made r out (k_lead role pid) = k_lead role (let same = pid_same r out in omega (arith, same, pid))
  kind_made r out (k_lent conn peer seq role there) = k_lent conn peer seq role there
  kind_made r out (k_child token euid role pid) = k_child token euid role (pid_same r out ∙ pid)

  pub ordered_made : Ord X (made now k call s)
  ordered_made = record {
    legal = legal_made s now k call o.legal may;
    many = o.many;
    first = record {
      outside = o.first.outside;
      lives = lives_same 0 o.first.outside ∙ o.first.lives;
      role = o.first.role;
      pid_is = pid_same 0 o.first.outside ∙ o.first.pid_is;
      admin = ap (λ c. has_capability c cap_sys_admin) (creds-stay h (event now k call) 0 apart) ∙ o.first.admin;
    };
    waits = still;
    lent = λ conn peer client seq is. (let mine = o.lent conn peer client seq is in record {
      outside = mine.outside;
      lives = lives_same client mine.outside ∙ mine.lives;
      role = mine.role;
      pid_is = pid_same client mine.outside ∙ mine.pid_is;
      creds = creds-stay h (event now k call) client (few client mine.outside).3 ∙ mine.creds;
      led = led_made peer.pid mine.led;
    });
    peers = o.peers;
    kinds = λ r out lives. kind_made r out (o.kinds r out (sym (lives_same r out) ∙ lives));
  }

  pub step_made : Step X s (made now k call s)
  step_made = record { ord = ordered_made; lives = lives_same; pids = pid_same; roles = λ r out. refl }

-- where its call can't wait
pub still_never : (X : ℕ → Bool) (s : Server) (now k : ℕ) (call : Call) → Ord X s → may_make s k ≡ true → can_wait call ≡ false
    → (r : ℕ) → X r ≡ false → is_waiting (state (made now k call s)) r ≡ true → IsMember s.conns r
still_never X s now k call o may never r out waits =
    let even = even_others s now k call o.legal may never r in
    let one_waits = ap one waits in
    o.waits r out (one_true (is_waiting (state s) r) (omega (arith, even, one_waits)))

pub step_never : (X : ℕ → Bool) (s : Server) (now k : ℕ) (call : Call) → Ord X s → may_make s k ≡ true → ((r : ℕ) → X r ≡ false → IsLeft s.history k call r) → takes_creds k call 0 ≡ false → can_wait call ≡ false
    → Step X s (made now k call s)
step_never X s now k call o may few apart never = step_made X s now k call o may few apart (still_never X s now k call o may never)

step_may : (X : ℕ → Bool) (s : Server) (now k : ℕ) (call : Call) → Ord X s → ((r : ℕ) → X r ≡ false → IsLeft s.history k call r) → takes_creds k call 0 ≡ false → can_wait call ≡ false
    → (b : Bool) → may_make s k ≡ b → Step X s (if b then applies now k call s else stays s).server
step_may X s now k call o few apart never true may = step_never X s now k call o may few apart never
step_may X s now k call o few apart never false may = step_same s o

pub step_makes : (X : ℕ → Bool) (s : Server) (now k : ℕ) (call : Call) → Ord X s → ((r : ℕ) → X r ≡ false → IsLeft s.history k call r) → takes_creds k call 0 ≡ false → can_wait call ≡ false
    → Step X s (makes now k call s).server
step_makes X s now k call o few apart never = step_may X s now k call o few apart never (may_make s k) refl

pub server_is : (now k : ℕ) (call : Call) (s : Server) → may_make s k ≡ true → (makes now k call s).server ≡ made now k call s
server_is now k call s may = ap (λ (b : Bool). (if b then applies now k call s else stays s).server) may

-- nothing is said of some, or something again
pub exempt_by : (X : ℕ → Bool) (s : Server) → Ord none s → X 0 ≡ false
    → ((conn : ℕ) (peer : Peer) (client seq : ℕ) → conn_at s conn ≡ Member peer client seq → X client ≡ false)
    → ((conn : ℕ) (peer : Peer) (client seq lead : ℕ) → conn_at s conn ≡ Member peer client seq → has_exited (state s) lead ≡ false → role_at s lead ≡ Lead → pid_at (state s) lead ≡ peer.pid → X lead ≡ false) → Ord X s
exempt_by X s o apart members leads = record {
  legal = o.legal;
  many = o.many;
  first = record { outside = apart; lives = o.first.lives; role = o.first.role; pid_is = o.first.pid_is; admin = o.first.admin };
  waits = λ r out is. o.waits r refl is;
  lent = λ conn peer client seq is. (let mine = o.lent conn peer client seq is in record {
    outside = members conn peer client seq is;
    lives = mine.lives;
    role = mine.role;
    pid_is = mine.pid_is;
    creds = mine.creds;
    led = (let led = mine.led in record { lead = led.lead; outside = leads conn peer client seq led.lead is led.lives led.role led.pid_is; lives = led.lives; role = led.role; pid_is = led.pid_is });
  });
  peers = o.peers;
  kinds = λ r out lives. o.kinds r refl lives;
}

pub exempt : (s : Server) (x : ℕ) → Ord none s → x ≢ 0 → ((conn : ℕ) (peer : Peer) (client seq : ℕ) → conn_at s conn ≡ Member peer client seq → client ≢ x)
    → ((lead : ℕ) → has_exited (state s) lead ≡ false → role_at s lead ≡ Lead → lead ≢ x) → Ord (only x) s
exempt s x o apart members leads = exempt_by (only x) s o (only_not x 0 (λ same. apart (sym same)))
    (λ conn peer client seq is. only_not x client (members conn peer client seq is)) (λ conn peer client seq lead is lives role pid. only_not x lead (leads lead lives role))

pub exempt_ended : (s : Server) (x : ℕ) → Ord none s → has_exited (state s) x ≡ true → Ord (only x) s
exempt_ended s x o ended = exempt s x o (other 0 o.first.lives) (λ conn peer client seq is same. other client (o.lent conn peer client seq is).lives (sym same)) (λ lead lives role same. other lead lives (sym same))
  where
    other : (r : ℕ) → has_exited (state s) r ≡ false → x ≢ r
    other r lives same = true≢false (sym ended ∙ ap (λ (k : ℕ). has_exited (state s) k) same ∙ lives)

either_of : (P : ℕ → Type 0) (X : ℕ → Bool) → ((r : ℕ) → X r ≡ true → P r) → ((r : ℕ) → X r ≡ false → P r) → (r : ℕ) → (b : Bool) → X r ≡ b → P r
either_of P X here others r true same = here r same
either_of P X here others r false out = others r out

pub settle_by : (X : ℕ → Bool) (s : Server) → Ord X s → ((r : ℕ) → X r ≡ true → is_waiting (state s) r ≡ true → IsMember s.conns r)
    → ((r : ℕ) → X r ≡ true → has_exited (state s) r ≡ false → IsKind s.history s.conns s.roles r) → Ord none s
settle_by X s o waits kind = record {
  legal = o.legal;
  many = o.many;
  first = record { outside = refl; lives = o.first.lives; role = o.first.role; pid_is = o.first.pid_is; admin = o.first.admin };
  waits = λ r out. either_of (λ (k : ℕ). is_waiting (state s) k ≡ true → IsMember s.conns k) X waits (λ k other. o.waits k other) r (X r) refl;
  lent = λ conn peer client seq is. (let mine = o.lent conn peer client seq is in record {
    outside = refl;
    lives = mine.lives;
    role = mine.role;
    pid_is = mine.pid_is;
    creds = mine.creds;
    led = (let led = mine.led in record { lead = led.lead; outside = refl; lives = led.lives; role = led.role; pid_is = led.pid_is });
  });
  peers = o.peers;
  kinds = λ r out. either_of (λ (k : ℕ). has_exited (state s) k ≡ false → IsKind s.history s.conns s.roles k) X kind (λ k other. o.kinds k other) r (X r) refl;
}

pub settle : (s : Server) (x : ℕ) → Ord (only x) s → (is_waiting (state s) x ≡ true → IsMember s.conns x) → (has_exited (state s) x ≡ false → IsKind s.history s.conns s.roles x) → Ord none s
settle s x o waits kind = settle_by (only x) s o
    (λ r same. subst (λ (k : ℕ). is_waiting (state s) k ≡ true → IsMember s.conns k) (sym (eqb-true r x same)) waits)
    (λ r same. subst (λ (k : ℕ). has_exited (state s) k ≡ false → IsKind s.history s.conns s.roles k) (sym (eqb-true r x same)) kind)

pub settle_ended : (X : ℕ → Bool) (s : Server) → Ord X s → ((r : ℕ) → X r ≡ true → has_exited (state s) r ≡ true) → Ord none s
settle_ended X s o ended = settle_by X s o (λ r in_it waits. absurd (true≢false (sym waits ∙ ended_idle s.history r (ended r in_it)))) (λ r in_it lives. absurd (true≢false (sym (ended r in_it) ∙ lives)))

-- one has another role of which nothing is said
pub turned : (s : Server) (x : ℕ) (role : Role) → Ord (only x) s → Step (only x) s (with_role s x role)
turned s x role o = record {
  ord = record {
    legal = o.legal;
    many = length-set s.roles x role ∙ o.many;
    first = record { outside = o.first.outside; lives = o.first.lives; role = same 0 o.first.outside ∙ o.first.role; pid_is = o.first.pid_is; admin = o.first.admin };
    waits = o.waits;
    lent = λ conn peer client seq is. (let mine = o.lent conn peer client seq is in record {
      outside = mine.outside;
      lives = mine.lives;
      role = same client mine.outside ∙ mine.role;
      pid_is = mine.pid_is;
      creds = mine.creds;
      led = (let led = mine.led in record { lead = led.lead; outside = led.outside; lives = led.lives; role = same led.lead led.outside ∙ led.role; pid_is = led.pid_is });
    });
    peers = o.peers;
    kinds = λ r out lives. kind_turned r out (o.kinds r out lives);
  };
  lives = λ r out. refl;
  pids = λ r out. refl;
  roles = λ r out. same r out;
}
  where
    same : (r : ℕ) → only x r ≡ false → role_in (slice_set s.roles x role) r ≡ role_in s.roles r
    same r out = get_or-set_other s.roles x r role Free (only_other x r out)

    kind_turned : (r : ℕ) → only x r ≡ false → IsKind s.history s.conns s.roles r → IsKind s.history s.conns (slice_set s.roles x role) r
    kind_turned r out (k_first is) = k_first is
    kind_turned r out (k_lead is pid) = k_lead (same r out ∙ is) pid
    kind_turned r out (k_lent conn peer seq is there) = k_lent conn peer seq (same r out ∙ is) there
    kind_turned r out (k_child token euid is pid) = k_child token euid (same r out ∙ is) pid
