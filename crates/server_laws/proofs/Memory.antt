-- What events do to the memory of segments.
use Rattle.std.proofs.Common.{◌≡◌, ℕ, ◌+◌, ◌≤◌, Bool, true, false, cond, List, [], ◌∷◌, ◌++◌, Option, Some, None, refl, sym, ap, ◌∙◌, arith, map}
use Rattle.std.specs.Prelude.{◌==◌, filter, not, if◌then◌else◌}
use Rattle.std.specs.List.{AllByRecursion, list_any}
use Rattle.std.proofs.lemmas.Bool.{eqb-true, false≢true, or_parts}
use Rattle.ipc_call.specs.declared.replies.Reply.{Reply}
use Rattle.ipc_server.specs.declared.outputs.Closing.{Closing}
use Rattle.ipc_server.specs.declared.outputs.Closing.TheVariants as why
use Rattle.ipc_server.specs.declared.outputs.Output.{Output}
use Rattle.ipc_server.specs.declared.outputs.Output.TheVariants as outputs
use Rattle.ipc_server.specs.declared.peers.Conn.{Conn}
use Rattle.ipc_server.specs.declared.peers.Role.{Role}
use Rattle.ipc_server.specs.declared.peers.Supply.{Supply}
use Rattle.ipc_server.specs.Going.{Went, says, stays}
use Rattle.ipc_server.specs.Lives.{closed_from, closed_one}
use Rattle.ipc_server.specs.Making.{applies, asked, attached_reply, is_in, made, others_told, replies_told, reply, reply_on, size_of, sweeps, told_of, with_memory}
use Rattle.ipc_server.specs.Servers.{Server, count, is_of, is_process, state}
use Rattle.ipc_server.specs.Steps.{Event, serves, step}
use Rattle.ipc_wire.specs.declared.told.Told.{Told}
use Rattle.server_laws.specs.Memory.{AreThere, IsOnce, drops_of, is_drop, is_make, makes_of, times}
use Rattle.server_laws.specs.Runs.{Input, after}
use Rattle.server_laws.proofs.Counts.{count-append, count-cons, count-last, count-one, one}
use Rattle.server_laws.proofs.Moves.{Moves, Serves, comes, goes, goes_all, is_plain, joins_in, keeps, makes_one, passing, plainly, serves_by, still, tells, followed, turns, waits_on}

-- what is told of calls that end, and that connections close, is neither
module _ (p : Output → Bool) (no_reply : (conn seq : ℕ) (what : Told) → p (reply conn seq what) ≡ false) where
  none_on : (what : Reply) (on : Option (ℕ × ℕ)) → count p (reply_on what on) ≡ 0
  none_on what None = refl
  none_on what (Some on) = count-one p (reply on.0 on.1 (told_of what)) (no_reply on.0 on.1 (told_of what))

  none_told : (conns : List Conn) (roles : List Role) (tos : List (ℕ × Reply)) → count p (replies_told conns roles tos) ≡ 0
  none_told conns roles [] = refl
  none_told conns roles (to ∷ tos) =
      let here = none_on to.1 (asked conns roles to.0) in
      let rest = none_told conns roles tos in
      let all = count-append p (reply_on to.1 (asked conns roles to.0)) (replies_told conns roles tos) in
      omega (arith, here, rest, all)

module _ (p : Output → Bool) (no_close : (conn : ℕ) (why : Closing) → p (outputs.Close conn why) ≡ false) where
  none_one : (b : Bool) (conn : ℕ) (rest : List Output) → count p rest ≡ 0 → count p (closed_one b conn rest) ≡ 0
  none_one true conn rest none = let all = count-cons p (outputs.Close conn why.Ended) rest in let here = ap one (no_close conn why.Ended) in omega (arith, all, here, none)
  none_one false conn rest none = none

  none_closed : (pid conn : ℕ) (cs : List Conn) → count p (closed_from pid conn cs) ≡ 0
  none_closed pid conn [] = refl
  none_closed pid conn (c ∷ cs) = none_one (is_of (is_process pid) c) conn (closed_from pid (conn + 1) cs) (none_closed pid (conn + 1) cs)

abbrev pub holding : Server → ℕ → Bool → Went
holding s segment b = if b then stays s else says (outputs.Make segment (size_of s segment)) (record s { memory = s.memory ++ segment ∷ [] })

module _ (g : ℕ) where
  abbrev Grows : Server → Went → Type 0
  Grows s w = (times g w.server.memory ≡ times g s.memory + makes_of g w.outputs) × (drops_of g w.outputs ≡ 0)

  not_make : (o : Output) → is_plain o ≡ true → is_make g o ≡ false
  not_make (outputs.Make segment size) plain = absurd (false≢true plain)
  not_make (outputs.Drop segment) plain = refl
  not_make (outputs.Reply conn seq what with_it) plain = refl
  not_make (outputs.Close conn why) plain = refl
  not_make (outputs.Ask pid) plain = refl

  not_drop : (o : Output) → is_plain o ≡ true → is_drop g o ≡ false
  not_drop (outputs.Make segment size) plain = refl
  not_drop (outputs.Drop segment) plain = absurd (false≢true plain)
  not_drop (outputs.Reply conn seq what with_it) plain = refl
  not_drop (outputs.Close conn why) plain = refl
  not_drop (outputs.Ask pid) plain = refl

  -- what is held more was made
  kept_more : (s : Server) (segment : ℕ) (b : Bool) → Grows s (holding s segment b)
  kept_more s segment true = (omega arith, refl)
  kept_more s segment false =
      let all = count-append (λ own. own == g) s.memory (segment ∷ []) in
      let held = count-cons (λ own. own == g) segment [] in
      let made = count-cons (is_make g) (outputs.Make segment (size_of s segment)) [] in
      (omega (arith, all, held, made), refl)

  grows : {s : Server} {w : Went} → Moves s w → Grows s w
  grows (still s) = (omega arith, refl)
  grows (tells s o plain) =
      let made = count-one (is_make g) o (not_make o plain) in
      (omega (arith, made), count-one (is_drop g) o (not_drop o plain))
  grows (makes_one s now client call may) =
      let made = none_told (is_make g) (λ conn seq what. refl) s.conns s.roles (others_told now client call s) in
      (omega (arith, made), none_told (is_drop g) (λ conn seq what. refl) s.conns s.roles (others_told now client call s))
  grows (goes s conn) = (omega arith, refl)
  grows (comes s conn pid c free) = (omega arith, refl)
  grows (joins_in s conn peer client seq silent) = (omega arith, refl)
  grows (waits_on s conn seq) = (omega arith, refl)
  grows (turns s client role) = (omega arith, refl)
  grows (keeps s segment) = kept_more s segment (list_any (λ own. own == segment) s.memory)
  grows (goes_all s pid) =
      let made = none_closed (is_make g) (λ conn why. refl) pid 0 s.conns in
      (omega (arith, made), none_closed (is_drop g) (λ conn why. refl) pid 0 s.conns)
  grows (followed {s} {v} {w} m n) =
      let first = grows m in
      let next = grows n in
      let made = count-append (is_make g) v.outputs w.outputs in
      let dropped = count-append (is_drop g) v.outputs w.outputs in
      (omega (arith, first, next, made), omega (arith, first, next, dropped))

  serves_grow : {s : Server} {w : Went} → Serves s w → Grows s w
  serves_grow (plainly m) = grows m
  serves_grow (passing s now conn client seq call peer before number a may there own is) =
      let t = made now client call s in
      let told = (applies now client call s).outputs in
      let most = grows (followed (makes_one s now client call may) (keeps t a.segment)) in
      let made = count-last (is_make g) told (with_memory a.segment t).outputs (attached_reply conn seq number a t) refl in
      let dropped = count-last (is_drop g) told (with_memory a.segment t).outputs (attached_reply conn seq number a t) refl in
      (omega (arith, most, made), omega (arith, most, dropped))

  -- what isn't held any more was dropped
  sweep_one : (x : ℕ) (b : Bool) (kept left : List ℕ) (n : ℕ) → times g kept + drops_of g (map (λ segment. outputs.Drop segment) left) ≡ n
      → times g (cond b (x ∷ kept) kept) + drops_of g (map (λ segment. outputs.Drop segment) (cond (not b) (x ∷ left) left)) ≡ one (x == g) + n
  sweep_one x true kept left n even = let here = count-cons (λ own. own == g) x kept in omega (arith, here, even)
  sweep_one x false kept left n even =
      let here = count-cons (is_drop g) (outputs.Drop x) (map (λ segment. outputs.Drop segment) left) in omega (arith, here, even)

  swept : (stays_in : ℕ → Bool) (memory : List ℕ)
      → times g (filter stays_in memory) + drops_of g (map (λ segment. outputs.Drop segment) (filter (λ segment. not (stays_in segment)) memory)) ≡ times g memory
  swept stays_in [] = refl
  swept stays_in (x ∷ xs) =
      sweep_one x (stays_in x) (filter stays_in xs) (filter (λ segment. not (stays_in segment)) xs) (times g xs) (swept stays_in xs) ∙ sym (count-cons (λ own. own == g) x xs)

  no_make : (segments : List ℕ) → makes_of g (map (λ segment. outputs.Drop segment) segments) ≡ 0
  no_make [] = refl
  no_make (x ∷ xs) = no_make xs

  pub memory_even : (supply : Supply) (now : ℕ) (e : Event) (s : Server) → times g s.memory + makes_of g (step supply now e s).outputs
      ≡ times g (step supply now e s).server.memory + drops_of g (step supply now e s).outputs
  memory_even supply now e s =
      let w = serves supply now e s in
      let more = serves_grow (serves_by supply now e s) in
      let rest = swept (is_in (state w.server)) w.server.memory in
      let made = count-append (is_make g) w.outputs (sweeps w.server).outputs in
      let none = no_make (filter (λ segment. not (is_in (state w.server) segment)) w.server.memory) in
      let dropped = count-append (is_drop g) w.outputs (sweeps w.server).outputs in
      omega (arith, more, rest, made, none, dropped)

-- none is held twice
none_held : (segment : ℕ) (memory : List ℕ) → list_any (λ own. own == segment) memory ≡ false → times segment memory ≡ 0
none_held segment [] none = refl
none_held segment (x ∷ xs) none =
    let parts = or_parts (x == segment) (list_any (λ own. own == segment) xs) none in
    let all = count-cons (λ own. own == segment) x xs in
    let here = ap one parts.0 in
    let rest = none_held segment xs parts.1 in
    omega (arith, all, here, rest)

once_held : (s : Server) (segment : ℕ) (b : Bool) → list_any (λ own. own == segment) s.memory ≡ b → IsOnce s.memory → IsOnce (holding s segment b).server.memory
once_held s segment true is once g = once g
once_held s segment false is once g = by (segment == g) refl
  where
    by : (b : Bool) → (segment == g) ≡ b → times g (s.memory ++ segment ∷ []) ≤ 1
    by true same =
        let none = none_held segment s.memory is in
        let here : times segment s.memory ≡ times g s.memory = ap (λ (k : ℕ). times k s.memory) (eqb-true segment g same) in
        let all = count-append (λ own. own == g) s.memory (segment ∷ []) in
        let last = count-cons (λ own. own == g) segment [] in
        let counts = ap one same in
        omega (arith, none, here, all, last, counts)
    by false other =
        let before = once g in
        let all = count-append (λ own. own == g) s.memory (segment ∷ []) in
        let last = count-one (λ own. own == g) segment other in
        omega (arith, before, all, last)

once_moves : {s : Server} {w : Went} → Moves s w → IsOnce s.memory → IsOnce w.server.memory
once_moves (still s) once = once
once_moves (tells s o plain) once = once
once_moves (makes_one s now client call may) once = once
once_moves (goes s conn) once = once
once_moves (comes s conn pid c free) once = once
once_moves (joins_in s conn peer client seq silent) once = once
once_moves (waits_on s conn seq) once = once
once_moves (turns s client role) once = once
once_moves (keeps s segment) once = once_held s segment (list_any (λ own. own == segment) s.memory) refl once
once_moves (goes_all s pid) once = once
once_moves (followed m n) once = once_moves n (once_moves m once)

once_serves : {s : Server} {w : Went} → Serves s w → IsOnce s.memory → IsOnce w.server.memory
once_serves (plainly m) once = once_moves m once
once_serves (passing s now conn client seq call peer before number a may there own is) once = once_held (made now client call s) a.segment (list_any (λ own. own == a.segment) s.memory) refl once

-- it is made only where it isn't held, and once
pub made_once : (supply : Supply) (now : ℕ) (e : Event) (s : Server) → IsOnce s.memory → (g : ℕ) → times g s.memory + makes_of g (step supply now e s).outputs ≤ 1
made_once supply now e s once g =
    let w = serves supply now e s in
    let more = serves_grow g (serves_by supply now e s) in
    let later = once_serves (serves_by supply now e s) once g in
    let made = count-append (is_make g) w.outputs (sweeps w.server).outputs in
    let none = no_make g (filter (λ segment. not (is_in (state w.server) segment)) w.server.memory) in
    omega (arith, more, later, made, none)

pub held_once : (supply : Supply) (now : ℕ) (e : Event) (s : Server) → IsOnce s.memory → IsOnce (step supply now e s).server.memory
held_once supply now e s once g =
    let even = memory_even g supply now e s in
    let made = made_once supply now e s once g in
    omega (arith, even, made)

-- what is held is there
kept_in : (test : ℕ → Bool) (x : ℕ) (b : Bool) (xs : List ℕ) → test x ≡ b → AllByRecursion (λ y. test y ≡ true) xs → AllByRecursion (λ y. test y ≡ true) (cond b (x ∷ xs) xs)
kept_in test x true xs is all = (is, all)
kept_in test x false xs is all = all

all_in : (test : ℕ → Bool) (xs : List ℕ) → AllByRecursion (λ x. test x ≡ true) (filter test xs)
all_in test [] = tt
all_in test (x ∷ xs) = kept_in test x (test x) (filter test xs) refl (all_in test xs)

pub held_there : (supply : Supply) (now : ℕ) (e : Event) (s : Server) → AreThere (step supply now e s).server
held_there supply now e s = let t = (serves supply now e s).server in all_in (is_in (state t)) t.memory

-- for every list of events
pub runs_once : (is : List Input) (s : Server) → IsOnce s.memory → IsOnce (after is s).memory
runs_once [] s once = once
runs_once (i ∷ is) s once = runs_once is (step i.supply i.now i.event s).server (held_once i.supply i.now i.event s once)
