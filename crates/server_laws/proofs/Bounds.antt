-- Connections stay within their bounds, which never change.
use Rattle.std.proofs.Common.{◌≡◌, ℕ, ◌≤◌, ◌<◌, Bool, true, false, List, [], ◌∷◌, Option, Some, None, refl, sym, ap, ◌∙◌, arith, map, subst, suc, zero}
use Rattle.std.specs.Prelude.{◌==◌, ◌&&◌, nat_le, replicate, slice_set, if◌then◌else◌}
use Rattle.std.specs.List.{list_any}
use Rattle.std.proofs.lemmas.Bool.{eqb-true, leb-false}
use Rattle.std.proofs.lemmas.Option.{none-some}
use Rattle.ipc_call.specs.declared.limits.Limits.{Limits}
use Rattle.ipc_creds.specs.Credentials.{Credentials}
use Rattle.ipc_server.specs.declared.outputs.Closing.{Closing}
use Rattle.ipc_server.specs.declared.outputs.Closing.TheVariants as why
use Rattle.ipc_server.specs.declared.peers.Bounds.{Bounds}
use Rattle.ipc_server.specs.declared.peers.Conn.{Conn}
use Rattle.ipc_server.specs.declared.peers.Conn.TheVariants.{Absent, Silent, Member}
use Rattle.ipc_server.specs.declared.peers.Peer.{Peer}
use Rattle.ipc_server.specs.declared.peers.Supply.{Supply}
use Rattle.ipc_server.specs.Going.{Went}
use Rattle.ipc_server.specs.Lives.{is_free, new_bar, without}
use Rattle.ipc_server.specs.Making.{made, under}
use Rattle.ipc_server.specs.Openings.{opened}
use Rattle.ipc_server.specs.Servers.{Server, conn_at, count, has_user, is_of, is_process, is_silent}
use Rattle.ipc_server.specs.Steps.{Event, step}
use Rattle.server_laws.specs.Bounds.{AreFew}
use Rattle.server_laws.specs.Runs.{Input, after}
use Rattle.server_laws.proofs.Counts.{count-map, count-cons, count-set, count-set_no, count-set_same, one}
use Rattle.server_laws.proofs.Memory.{holding}
use Rattle.server_laws.proofs.Moves.{Moves, Serves, comes, followed, goes, goes_all, joins_in, keeps, makes_one, passing, plainly, serves_by, still, tells, turns, waits_on}

-- the three tests
abbrev is_silent_of : ℕ → Conn → Bool
is_silent_of euid conn = is_silent conn && is_of (has_user euid) conn

-- fewer of each kind
record Fewer (xs ys : List Conn) : Type 0 where
  silent : count is_silent ys ≤ count is_silent xs
  of_user : (euid : ℕ) → count (is_of (has_user euid)) ys ≤ count (is_of (has_user euid)) xs
  silent_of_user : (euid : ℕ) → count (is_silent_of euid) ys ≤ count (is_silent_of euid) xs

few_fewer : (bounds : Bounds) (xs ys : List Conn) → Fewer xs ys → AreFew bounds xs → AreFew bounds ys
few_fewer bounds xs ys fewer few = record {
  silent = let a = fewer.silent in let b = few.silent in omega (arith, a, b);
  of_user = λ euid. (let a = fewer.of_user euid in let b = few.of_user euid in omega (arith, a, b));
  silent_of_user = λ euid. (let a = fewer.silent_of_user euid in let b = few.silent_of_user euid in omega (arith, a, b));
}

-- one goes, has said something, or has said more
fewer_gone : (xs : List Conn) (conn : ℕ) → Fewer xs (slice_set xs conn Absent)
fewer_gone xs conn = record {
  silent = count-set_no is_silent xs conn Absent refl;
  of_user = λ euid. count-set_no (is_of (has_user euid)) xs conn Absent refl;
  silent_of_user = λ euid. count-set_no (is_silent_of euid) xs conn Absent refl;
}

fewer_member : (s : Server) (conn : ℕ) (peer : Peer) (client seq : ℕ) → conn_at s conn ≡ Silent peer → Fewer s.conns (slice_set s.conns conn (Member peer client seq))
fewer_member s conn peer client seq silent = record {
  silent = count-set_no is_silent s.conns conn (Member peer client seq) refl;
  of_user = λ euid. count-set_same (is_of (has_user euid)) s.conns conn (Member peer client seq) Absent (sym (ap (λ (c : Conn). is_of (has_user euid) c) silent));
  silent_of_user = λ euid. count-set_no (is_silent_of euid) s.conns conn (Member peer client seq) refl;
}

silent_under : (seq : ℕ) (c : Conn) → is_silent (under seq c) ≡ is_silent c
silent_under seq Absent = refl
silent_under seq (Silent peer) = refl
silent_under seq (Member peer client before) = refl

of_under : (seq euid : ℕ) (c : Conn) → is_of (has_user euid) (under seq c) ≡ is_of (has_user euid) c
of_under seq euid Absent = refl
of_under seq euid (Silent peer) = refl
of_under seq euid (Member peer client before) = refl

fewer_under : (s : Server) (conn seq : ℕ) → Fewer s.conns (slice_set s.conns conn (under seq (conn_at s conn)))
fewer_under s conn seq =
    let c = conn_at s conn in record {
      silent = count-set_same is_silent s.conns conn (under seq c) Absent (silent_under seq c);
      of_user = λ euid. count-set_same (is_of (has_user euid)) s.conns conn (under seq c) Absent (of_under seq euid c);
      silent_of_user = λ euid. count-set_same (is_silent_of euid) s.conns conn (under seq c) Absent (λ i. silent_under seq c i && of_under seq euid c i);
    }

fewer_without : (p : Conn → Bool) → p Absent ≡ false → (test : Conn → Bool) (c : Conn) → one (p (without test c)) ≤ one (p c)
fewer_without p fails test c = by (test c)
  where
    by : (b : Bool) → one (p (if b then Absent else c)) ≤ one (p c)
    by true = let none = ap one fails in omega (arith, none)
    by false = omega arith

fewer_all : (pid : ℕ) (xs : List Conn) → Fewer xs (map (without (is_of (is_process pid))) xs)
fewer_all pid xs = record {
  silent = count-map is_silent (without (is_of (is_process pid))) (fewer_without is_silent refl (is_of (is_process pid))) xs;
  of_user = λ euid. count-map (is_of (has_user euid)) (without (is_of (is_process pid))) (fewer_without (is_of (has_user euid)) refl (is_of (is_process pid))) xs;
  silent_of_user = λ euid. count-map (is_silent_of euid) (without (is_of (is_process pid))) (fewer_without (is_silent_of euid) refl (is_of (is_process pid))) xs;
}

-- none of the bounds is reached where one comes
record IsBelow (s : Server) (euid : ℕ) : Type 0 where
  silent : count is_silent s.conns < s.bounds.silent
  of_user : count (is_of (has_user euid)) s.conns < s.bounds.conns_of_user
  silent_of_user : count (is_silent_of euid) s.conns < s.bounds.silent_of_user

if_none : (b : Bool) (why : Closing) (o : Option Closing) → (if b then Some why else o) ≡ None → (b ≡ false) × (o ≡ None)
if_none true why o is = absurd (none-some why (sym is))
if_none false why o is = (refl, is)

below_bar : (s : Server) (pid euid : ℕ) → new_bar s pid euid ≡ None → IsBelow s euid
below_bar s pid euid none =
    let p = if_none _ why.BadPid _ none in
    let q = if_none (nat_le s.bounds.silent (count is_silent s.conns)) why.TooManySilent _ p.1 in
    let r = if_none (nat_le s.bounds.conns_of_user (count (is_of (has_user euid)) s.conns)) why.TooManyOfUser _ q.1 in
    let t = if_none (nat_le s.bounds.silent_of_user (count (is_silent_of euid) s.conns)) why.TooManySilentOfUser None r.1 in
    record {
      silent = leb-false s.bounds.silent (count is_silent s.conns) q.0;
      of_user = leb-false s.bounds.conns_of_user (count (is_of (has_user euid)) s.conns) r.0;
      silent_of_user = leb-false s.bounds.silent_of_user (count (is_silent_of euid) s.conns) t.0;
    }

below_free : (s : Server) (b : Bool) (pid euid : ℕ) → (if b then new_bar s pid euid else Some why.BadNumber) ≡ None → IsBelow s euid
below_free s true pid euid none = below_bar s pid euid none
below_free s false pid euid none = absurd (none-some why.BadNumber (sym none))

few_come : (s : Server) (conn pid : ℕ) (c : Credentials) → IsBelow s c.euid → AreFew s.bounds s.conns → AreFew s.bounds (slice_set s.conns conn (Silent (record { pid = pid; creds = c })))
few_come s conn pid c below few = record {
  silent = let most = count-set is_silent s.conns conn new in let b = below.silent in omega (arith, most, b);
  of_user = λ euid. by euid (c.euid == euid) refl;
  silent_of_user = λ euid. by_silent euid (c.euid == euid) refl;
}
  where
    new : Conn
    new = Silent (record { pid = pid; creds = c })

    by : (euid : ℕ) (b : Bool) → (c.euid == euid) ≡ b → count (is_of (has_user euid)) (slice_set s.conns conn new) ≤ s.bounds.conns_of_user
    by euid true same =
        let most = count-set (is_of (has_user euid)) s.conns conn new in
        let here = ap one same in
        let b : count (is_of (has_user euid)) s.conns < s.bounds.conns_of_user = subst (λ (k : ℕ). count (is_of (has_user k)) s.conns < s.bounds.conns_of_user) (eqb-true c.euid euid same) below.of_user in
        omega (arith, most, here, b)
    by euid false other =
        let most = count-set_no (is_of (has_user euid)) s.conns conn new other in
        let b = few.of_user euid in
        omega (arith, most, b)

    by_silent : (euid : ℕ) (b : Bool) → (c.euid == euid) ≡ b → count (is_silent_of euid) (slice_set s.conns conn new) ≤ s.bounds.silent_of_user
    by_silent euid true same =
        let most = count-set (is_silent_of euid) s.conns conn new in
        let here = ap one same in
        let b : count (is_silent_of euid) s.conns < s.bounds.silent_of_user = subst (λ (k : ℕ). count (is_silent_of k) s.conns < s.bounds.silent_of_user) (eqb-true c.euid euid same) below.silent_of_user in
        omega (arith, most, here, b)
    by_silent euid false other =
        let most = count-set_no (is_silent_of euid) s.conns conn new other in
        let b = few.silent_of_user euid in
        omega (arith, most, b)

-- the bounds never change, and connections stay within them
same_bounds : (s : Server) (segment : ℕ) (b : Bool) → (holding s segment b).server.bounds ≡ s.bounds
same_bounds s segment true = refl
same_bounds s segment false = refl

few_held : (s : Server) (segment : ℕ) (b : Bool) → AreFew s.bounds s.conns → AreFew (holding s segment b).server.bounds (holding s segment b).server.conns
few_held s segment true few = few
few_held s segment false few = few

bounds_move : {s : Server} {w : Went} → Moves s w → w.server.bounds ≡ s.bounds
bounds_move (still s) = refl
bounds_move (tells s o plain) = refl
bounds_move (makes_one s now client call may) = refl
bounds_move (goes s conn) = refl
bounds_move (comes s conn pid c free) = refl
bounds_move (joins_in s conn peer client seq silent) = refl
bounds_move (waits_on s conn seq) = refl
bounds_move (turns s client role) = refl
bounds_move (keeps s segment) = same_bounds s segment (list_any (λ own. own == segment) s.memory)
bounds_move (goes_all s pid) = refl
bounds_move (followed m n) = bounds_move n ∙ bounds_move m

few_moves : {s : Server} {w : Went} → Moves s w → AreFew s.bounds s.conns → AreFew w.server.bounds w.server.conns
few_moves (still s) few = few
few_moves (tells s o plain) few = few
few_moves (makes_one s now client call may) few = few
few_moves (goes s conn) few = few_fewer s.bounds s.conns (slice_set s.conns conn Absent) (fewer_gone s.conns conn) few
few_moves (comes s conn pid c free) few = few_come s conn pid c (below_free s (is_free s conn) pid c.euid free) few
few_moves (joins_in s conn peer client seq silent) few = few_fewer s.bounds s.conns (slice_set s.conns conn (Member peer client seq)) (fewer_member s conn peer client seq silent) few
few_moves (waits_on s conn seq) few = few_fewer s.bounds s.conns (slice_set s.conns conn (under seq (conn_at s conn))) (fewer_under s conn seq) few
few_moves (turns s client role) few = few
few_moves (keeps s segment) few = few_held s segment (list_any (λ own. own == segment) s.memory) few
few_moves (goes_all s pid) few = few_fewer s.bounds s.conns (map (without (is_of (is_process pid))) s.conns) (fewer_all pid s.conns) few
few_moves (followed m n) few = few_moves n (few_moves m few)

bounds_serve : {s : Server} {w : Went} → Serves s w → w.server.bounds ≡ s.bounds
bounds_serve (plainly m) = bounds_move m
bounds_serve (passing s now conn client seq call peer before number a may there own is) = same_bounds (made now client call s) a.segment (list_any (λ own. own == a.segment) s.memory)

few_serve : {s : Server} {w : Went} → Serves s w → AreFew s.bounds s.conns → AreFew w.server.bounds w.server.conns
few_serve (plainly m) few = few_moves m few
few_serve (passing s now conn client seq call peer before number a may there own is) few = few_held (made now client call s) a.segment (list_any (λ own. own == a.segment) s.memory) few

pub bounds_stay : (supply : Supply) (now : ℕ) (e : Event) (s : Server) → (step supply now e s).server.bounds ≡ s.bounds
bounds_stay supply now e s = bounds_serve (serves_by supply now e s)

pub few_stay : (supply : Supply) (now : ℕ) (e : Event) (s : Server) → AreFew s.bounds s.conns → AreFew (step supply now e s).server.bounds (step supply now e s).server.conns
few_stay supply now e s few = few_serve (serves_by supply now e s) few

-- from the start on
none_yet : (p : Conn → Bool) → p Absent ≡ false → (n : ℕ) → count p (replicate n Absent) ≡ 0
none_yet p fails zero = refl
none_yet p fails (suc n) = let all = count-cons p Absent (replicate n Absent) in let here = ap one fails in let rest = none_yet p fails n in omega (arith, all, here, rest)

few_at_start : (bounds : Bounds) (n : ℕ) → AreFew bounds (replicate n Absent)
few_at_start bounds n = record {
  silent = let none = none_yet is_silent refl n in omega (arith, none);
  of_user = λ euid. (let none = none_yet (is_of (has_user euid)) refl n in omega (arith, none));
  silent_of_user = λ euid. (let none = none_yet (is_silent_of euid) refl n in omega (arith, none));
}

few_after : (is : List Input) (s : Server) → AreFew s.bounds s.conns → AreFew (after is s).bounds (after is s).conns
few_after [] s few = few
few_after (i ∷ is) s few = few_after is (step i.supply i.now i.event s).server (few_stay i.supply i.now i.event s few)

pub bounds_after : (is : List Input) (s : Server) → (after is s).bounds ≡ s.bounds
bounds_after [] s = refl
bounds_after (i ∷ is) s = bounds_after is (step i.supply i.now i.event s).server ∙ bounds_stay i.supply i.now i.event s

pub always_few : (limits : Limits) (clients conns : ℕ) (bounds : Bounds) (is : List Input) → AreFew bounds (after is (opened limits clients conns bounds)).conns
always_few limits clients conns bounds is =
    subst (λ (b : Bounds). AreFew b (after is (opened limits clients conns bounds)).conns) (bounds_after is (opened limits clients conns bounds))
    (few_after is (opened limits clients conns bounds) (few_at_start bounds conns))

pub few_stay_within : (supply : Supply) (now : ℕ) (e : Event) (s : Server) → AreFew s.bounds s.conns → AreFew s.bounds (step supply now e s).server.conns
few_stay_within supply now e s few = subst (λ (b : Bounds). AreFew b (step supply now e s).server.conns) (bounds_stay supply now e s) (few_stay supply now e s few)
