-- Announced forks stay within their bounds, and clients are always lent as they should be.
use Rattle.std.proofs.Common.{◌≡◌, ◌≢◌, ℕ, zero, suc, ◌+◌, ◌<◌, ◌≤◌, Bool, true, false, List, [], ◌∷◌, Option, Some, None, length, refl, sym, ap, ◌∙◌, arith, subst}
use Rattle.std.specs.Prelude.{◌==◌, ◌&&◌, nat_le, not, if◌then◌else◌}
use Rattle.std.specs.List.{list_any, range_with_len}
use Rattle.std.proofs.lemmas.Bool.{and_parts, eq-eqb, eqb-true, false≢true, leb-false, not-true, true≢false}
use Rattle.std.proofs.lemmas.Option.{none-some}
use Rattle.ipc_call.specs.declared.limits.Limits.{Limits}
use Rattle.ipc_creds.specs.Credentials.{Credentials}
use Rattle.ipc_model.specs.State.{has_exited}
use Rattle.ipc_server.specs.declared.peers.Bounds.{Bounds}
use Rattle.ipc_server.specs.declared.peers.Conn.TheVariants.{Member}
use Rattle.ipc_server.specs.declared.peers.Peer.{Peer}
use Rattle.ipc_server.specs.declared.peers.Role.{Role}
use Rattle.ipc_server.specs.declared.peers.Role.TheVariants.{Free, Lead, Lent, Child}
use Rattle.ipc_server.specs.declared.peers.Supply.{Supply}
use Rattle.ipc_server.specs.Going.{Went}
use Rattle.ipc_server.specs.Lives.{fork_bar}
use Rattle.ipc_server.specs.Making.{made}
use Rattle.ipc_server.specs.Openings.{opened}
use Rattle.ipc_server.specs.Servers.{Server, announced_by, children, clients_of, count, is_child, role_at, state, conn_at}
use Rattle.ipc_server.specs.Steps.{Event, step}
use Rattle.ipc_wire.specs.declared.told.Hindrance.{Hindrance}
use Rattle.ipc_wire.specs.declared.told.Hindrance.TheVariants as hindrance
use Rattle.server_laws.specs.Bounds.{AreFewForks}
use Rattle.server_laws.specs.Runs.{Input, after}
use Rattle.server_laws.specs.Telling.{ActsAs, AreLent}
use Rattle.server_laws.proofs.Always.{Grows, none_more, one_more, step_fine}
use Rattle.server_laws.proofs.Bounds.{bounds_stay}
use Rattle.server_laws.proofs.Counts.{count-cons, one}
use Rattle.server_laws.proofs.Memory.{holding}
use Rattle.server_laws.proofs.Moves.{Moves, Serves, comes, followed, goes, goes_all, joins_in, keeps, makes_one, passing, plainly, serves_by, still, tells, turns, waits_on}
use Rattle.server_laws.proofs.Order.{Ord, none, ordered_lent}
use Rattle.server_laws.proofs.Start.{get_replicate, opened_ord}

-- no more pass where each that does passed before, and one more at most where all but one did
one_more_of : (a b : Bool) → (a ≡ true → b ≡ true) → one a ≤ one b
one_more_of true b shows = let is = ap one (shows refl) in omega (arith, is)
one_more_of false b shows = omega arith

module _ (p q : ℕ → Bool) where
  pub fewer : ((r : ℕ) → p r ≡ true → q r ≡ true) → (xs : List ℕ) → count p xs ≤ count q xs
  fewer shows [] = omega arith
  fewer shows (x ∷ xs) =
      let new = count-cons p x xs in
      let old = count-cons q x xs in
      let here = one_more_of (p x) (q x) (shows x) in
      let rest = fewer shows xs in
      omega (arith, new, old, here, rest)

  module _ (x : ℕ) (shows : (r : ℕ) → r ≢ x → p r ≡ true → q r ≡ true) where
    behind : (a n : ℕ) → x < a → count p (range_with_len a n) ≤ count q (range_with_len a n)
    behind a zero above = omega arith
    behind a (suc n) above =
        let new = count-cons p a (range_with_len (a + 1) n) in
        let old = count-cons q a (range_with_len (a + 1) n) in
        let here = one_more_of (p a) (q a) (shows a (λ same. absurd (omega (arith, same, above)))) in
        let rest = behind (a + 1) n (omega (arith, above)) in
        omega (arith, new, old, here, rest)

    pub one_more_at : (a n : ℕ) → count p (range_with_len a n) ≤ count q (range_with_len a n) + 1
    one_more_at a zero = omega arith
    one_more_at a (suc n) = by (a == x) refl (one_more_at (a + 1) n)
      where
        most : (b : Bool) → one b ≤ 1
        most true = omega arith
        most false = omega arith

        by : (b : Bool) → (a == x) ≡ b → count p (range_with_len (a + 1) n) ≤ count q (range_with_len (a + 1) n) + 1 → count p (range_with_len a (suc n)) ≤ count q (range_with_len a (suc n)) + 1
        by true same rest =
            let new = count-cons p a (range_with_len (a + 1) n) in
            let old = count-cons q a (range_with_len (a + 1) n) in
            let is = eqb-true a x same in
            let later = behind (a + 1) n (omega (arith, is)) in
            let here = most (p a) in
            omega (arith, new, old, later, here)
        by false other rest =
            let new = count-cons p a (range_with_len (a + 1) n) in
            let old = count-cons q a (range_with_len (a + 1) n) in
            let here = one_more_of (p a) (q a) (shows a (λ same. true≢false (sym (eq-eqb a x same) ∙ other))) in
            omega (arith, new, old, here, rest)

-- there are always as many clients
clients_held : (s : Server) (segment : ℕ) (b : Bool) → (holding s segment b).server.history.clients ≡ s.history.clients
clients_held s segment true = refl
clients_held s segment false = refl

clients_move : {s : Server} {w : Went} → Moves s w → w.server.history.clients ≡ s.history.clients
clients_move (still s) = refl
clients_move (tells s o plain) = refl
clients_move (makes_one s now client call may) = refl
clients_move (goes s conn) = refl
clients_move (comes s conn pid c free) = refl
clients_move (joins_in s conn peer client seq silent) = refl
clients_move (waits_on s conn seq) = refl
clients_move (turns s client role) = refl
clients_move (keeps s segment) = clients_held s segment (list_any (λ own. own == segment) s.memory)
clients_move (goes_all s pid) = refl
clients_move (followed m n) = clients_move n ∙ clients_move m

clients_serve : {s : Server} {w : Went} → Serves s w → w.server.history.clients ≡ s.history.clients
clients_serve (plainly m) = clients_move m
clients_serve (passing s now conn client seq call peer before number a may there own is) = clients_held (made now client call s) a.segment (list_any (λ own. own == a.segment) s.memory)

clients_stay : (supply : Supply) (now : ℕ) (e : Event) (s : Server) → (step supply now e s).server.history.clients ≡ s.history.clients
clients_stay supply now e s = clients_serve (serves_by supply now e s)

-- who passes as an announced fork
abbrev passes_as : Server → (Role → Bool) → ℕ → Bool
passes_as s test client = not (has_exited (state s) client) && test (role_at s client)

alive_of : (s : Server) (test : Role → Bool) → ((r : Role) → test r ≡ true → is_child r ≡ true) → (r : ℕ) → passes_as s test r ≡ true → (has_exited (state s) r ≡ false) × (is_child (role_at s r) ≡ true) × (test (role_at s r) ≡ true)
alive_of s test child r is =
    let parts = and_parts (not (has_exited (state s) r)) (test (role_at s r)) is in
    (not-true (has_exited (state s) r) parts.0, child (role_at s r) parts.1, parts.1)

passes_so : (s t : Server) (test : Role → Bool) (r : ℕ) → has_exited (state s) r ≡ false → role_at t r ≡ role_at s r → test (role_at t r) ≡ true → passes_as s test r ≡ true
passes_so s t test r live same is = λ i. not (live i) && (ap test (sym same) ∙ is) i

children_by : (s t : Server) (test : Role → Bool) → t.history.clients ≡ s.history.clients → children t test ≡ count (passes_as t test) (clients_of s)
children_by s t test same = ap (λ (cs : List Credentials). count (passes_as t test) (range_with_len 0 (length cs))) same

module _ (s t : Server) (same : t.history.clients ≡ s.history.clients) (test : Role → Bool) (child : (r : Role) → test r ≡ true → is_child r ≡ true) where
  pub no_more_pass : ((r : ℕ) → has_exited (state t) r ≡ false → is_child (role_at t r) ≡ true → (has_exited (state s) r ≡ false) × (role_at t r ≡ role_at s r)) → children t test ≤ children s test
  no_more_pass grew =
      let now_count = children_by s t test same in
      let few = fewer (passes_as t test) (passes_as s test) (λ r is. (let it = alive_of t test child r is in let was = grew r it.0 it.1 in passes_so s t test r was.0 was.1 it.2)) (clients_of s) in
      omega (arith, now_count, few)

  pub one_more_passes : (x : ℕ) → ((r : ℕ) → r ≢ x → has_exited (state t) r ≡ false → is_child (role_at t r) ≡ true → (has_exited (state s) r ≡ false) × (role_at t r ≡ role_at s r)) → children t test ≤ children s test + 1
  one_more_passes x grew =
      let now_count = children_by s t test same in
      let few = one_more_at (passes_as t test) (passes_as s test) x (λ r other is. (let it = alive_of t test child r is in let was = grew r other it.0 it.1 in passes_so s t test r was.0 was.1 it.2)) 0 (length s.history.clients) in
      omega (arith, now_count, few)

  -- where that one doesn't pass
  pub none_passes : (x : ℕ) → test (role_at t x) ≡ false → ((r : ℕ) → r ≢ x → has_exited (state t) r ≡ false → is_child (role_at t r) ≡ true → (has_exited (state s) r ≡ false) × (role_at t r ≡ role_at s r)) → children t test ≤ children s test
  none_passes x fails grew =
      let now_count = children_by s t test same in
      let few = fewer (passes_as t test) (passes_as s test) (λ r is. (
      let it = alive_of t test child r is in
      let was = grew r (λ here. true≢false (sym it.2 ∙ ap (λ (k : ℕ). test (role_at t k)) here ∙ fails)) it.0 it.1 in
      passes_so s t test r was.0 was.1 it.2)) (clients_of s) in
      omega (arith, now_count, few)

child_is : (r : Role) → is_child r ≡ true → is_child r ≡ true
child_is r is = is

announced_is : (user : ℕ) (r : Role) → announced_by user r ≡ true → is_child r ≡ true
announced_is user (Child token euid) is = refl
announced_is user Free is = absurd (false≢true is)
announced_is user Lead is = absurd (false≢true is)
announced_is user (Lent conn) is = absurd (false≢true is)

-- a fork is announced only below the bounds
bar_passes : (b : Bool) (why : Hindrance) (o : Option Hindrance) → (if b then Some why else o) ≡ None → (b ≡ false) × (o ≡ None)
bar_passes true why o is = absurd (none-some why (sym is))
bar_passes false why o is = (refl, is)

below_bounds : (s : Server) (euid token : ℕ) → fork_bar s euid token ≡ None → (children s is_child < s.bounds.forks) × (children s (announced_by euid) < s.bounds.forks_of_user)
below_bounds s euid token missing =
    let first = bar_passes (nat_le s.bounds.forks (children s is_child)) hindrance.TooManyForks _ missing in
    let next = bar_passes (nat_le s.bounds.forks_of_user (children s (announced_by euid))) hindrance.TooManyForks _ first.1 in
    (leb-false s.bounds.forks (children s is_child) first.0, leb-false s.bounds.forks_of_user (children s (announced_by euid)) next.0)

few_forks : (s t : Server) → t.history.clients ≡ s.history.clients → Grows s t → AreFewForks s.bounds s → AreFewForks s.bounds t
few_forks s t same (none_more grew) few = record {
  all = let fewer_now = no_more_pass s t same is_child child_is grew in let bound = few.all in omega (arith, fewer_now, bound);
  by_user = λ euid. (let fewer_now = no_more_pass s t same (announced_by euid) (announced_is euid) grew in let bound = few.by_user euid in omega (arith, fewer_now, bound));
}
few_forks s t same (one_more child token euid bar others role) few = record {
  all = let more = one_more_passes s t same is_child child_is child others in let below = (below_bounds s euid token bar).0 in omega (arith, more, below);
  by_user = λ user. by user (euid == user) refl;
}
  where
    by : (user : ℕ) (b : Bool) → (euid == user) ≡ b → children t (announced_by user) ≤ s.bounds.forks_of_user
    by user true is =
        let more = one_more_passes s t same (announced_by user) (announced_is user) child others in
        let below = subst (λ (k : ℕ). children s (announced_by k) < s.bounds.forks_of_user) (eqb-true euid user is) (below_bounds s euid token bar).1 in
        omega (arith, more, below)
    by user false other =
        let fewer_now = none_passes s t same (announced_by user) (announced_is user) child (ap (announced_by user) role ∙ other) others in
        let bound = few.by_user user in
        omega (arith, fewer_now, bound)

-- every list of events
few_after : (is : List Input) (s : Server) → Ord none s → AreFewForks s.bounds s → (Ord none (after is s)) × (AreFewForks s.bounds (after is s))
few_after [] s o few = (o, few)
few_after (i ∷ is) s o few =
    let t = (step i.supply i.now i.event s).server in
    let fine = step_fine i.supply i.now i.event s o in
    let now_few = few_forks s t (clients_stay i.supply i.now i.event s) fine.grows few in
    let same = bounds_stay i.supply i.now i.event s in
    let rest = few_after is t fine.ord (subst (λ (b : Bounds). AreFewForks b t) (sym same) now_few) in
    (rest.0, subst (λ (b : Bounds). AreFewForks b (after is t)) same rest.1)

none_at_start : (p : ℕ → Bool) → ((r : ℕ) → p r ≡ false) → (xs : List ℕ) → count p xs ≡ 0
none_at_start p fails [] = refl
none_at_start p fails (x ∷ xs) =
    let all = count-cons p x xs in
    let here = ap one (fails x) in
    let rest = none_at_start p fails xs in
    omega (arith, all, here, rest)

and_false : (a b : Bool) → b ≡ false → a && b ≡ false
and_false true b is = is
and_false false b is = refl

module _ (limits : Limits) (clients conns : ℕ) (bounds : Bounds) (some : 1 ≤ clients) where
  abbrev start : Server
  start = opened limits clients conns bounds

  no_child : (test : Role → Bool) → test Free ≡ false → children start test ≡ 0
  no_child test fails = none_at_start (passes_as start test)
      (λ r. and_false (not (has_exited (state start) r)) (test (role_at start r)) (ap test (get_replicate Free (length start.history.clients) r) ∙ fails)) (clients_of start)

  start_few : AreFewForks bounds start
  start_few = record {
    all = let missing = no_child is_child refl in omega (arith, missing);
    by_user = λ euid. (let missing = no_child (announced_by euid) refl in omega (arith, missing));
  }

  always : (is : List Input) → (Ord none (after is start)) × (AreFewForks bounds (after is start))
  always is = few_after is start (opened_ord limits clients some conns bounds) start_few

  pub always_few_forks : (is : List Input) → AreFewForks bounds (after is start)
  always_few_forks is = (always is).1

  pub always_lent : (is : List Input) → AreLent (after is start)
  always_lent is = ordered_lent (after is start) (always is).0

  pub always_ordered : (is : List Input) → Ord none (after is start)
  always_ordered is = (always is).0

  pub always_acts : (is : List Input) (conn : ℕ) (peer : Peer) (client seq : ℕ) → conn_at (after is start) conn ≡ Member peer client seq → ActsAs (after is start) peer client
  always_acts is conn peer client seq there = let mine = (always is).0.lent conn peer client seq there in record { pid = mine.pid_is; creds = mine.creds }
