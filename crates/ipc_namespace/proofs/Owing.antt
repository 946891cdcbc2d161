-- Which of the calls that wait the end of a process may make ready, set by set.
use Rattle.std.proofs.Common.{◌≡◌, ◌∙◌, ℕ, ◌+◌, ◌<◌, ◌≤◌, Bool, true, false, cond, eqb, List, [], ◌∷◌, length, refl, sym, ap, subst, arith, ⊎_elim, Option, Some, None}
use Rattle.std.specs.Prelude.{◌&&◌, ◌||◌, ◌==◌, ◌++◌, filter, option_map, unwrap_or, IfNone, IfSome, IsSome}
use Rattle.std.specs.List.{AllByRecursion, find}
use Rattle.std.proofs.lemmas.Bool.{cases_Bool, cases_eq, cases_lt, false≢true, true≢false}
use Rattle.ipc_call.specs.declared.calls.Call.{Call}
use Rattle.ipc_call.specs.declared.calls.Call.TheVariants.{Exit, Kill}
use Rattle.ipc_call.specs.declared.calls.Kind.{Kind}
use Rattle.ipc_call.specs.declared.calls.Kind.TheVariants as kinds
use Rattle.ipc_call.specs.declared.replies.Waiting.{Waiting}
use Rattle.ipc_model.specs.Cancelled.{is_same, waits_on}
use Rattle.ipc_model.specs.Decide.{waits_at}
use Rattle.ipc_model.specs.State.{Sems, State, Thread, has_pid, process_at, thread_at}
use Rattle.ipc_model.specs.Step.{first_ready, is_ready}
use Rattle.ipc_model.specs.Touched.{owes, touches_place}
use Rattle.ipc_parked.specs.declared.parked.Arrival.{Arrival}
use Rattle.ipc_parked.specs.Parked.{waiting}
use Rattle.ipc_parked.specs.declared.touched.Touched.{Touched}
use Rattle.ipc_parked.specs.Touched.{Covers, is_touched, may_end}
use Rattle.ipc_namespace.specs.Touching.{CoversKilled, CoversOwed, CoversWaiting, ending, is_listed, owes_at}
use Rattle.std.proofs.lemmas.Option.{none-some, same_Some}
use Rattle.ipc_namespace.proofs.Own.{found-none}
use Rattle.ipc_namespace.proofs.Parked.{all-filter}

-- lists
all-map : (P Q : Waiting → Type 0) (ws : List Waiting) → ((w : Waiting) → P w → Q w) → AllByRecursion P ws → AllByRecursion Q ws
all-map P Q [] f all = tt
all-map P Q (w ∷ ws) f all = (f w all.0, all-map P Q ws f all.1)

all-both : (P Q R : Waiting → Type 0) (ws : List Waiting) → ((w : Waiting) → P w → Q w → R w) → AllByRecursion P ws → AllByRecursion Q ws → AllByRecursion R ws
all-both P Q R [] f one other = tt
all-both P Q R (w ∷ ws) f one other = (f w one.0 other.0, all-both P Q R ws f one.1 other.1)

all-each : (P : Waiting → Type 0) (ws : List Waiting) → ((w : Waiting) → P w) → AllByRecursion P ws
all-each P [] f = tt
all-each P (w ∷ ws) f = (f w, all-each P ws f)

pub none-filter : (test : Waiting → Bool) (ws : List Waiting) → filter test ws ≡ [] → AllByRecursion (λ w. test w ≡ false) ws
none-filter test [] none = tt
none-filter test (w ∷ ws) none = ⊎_elim
    (λ (yes : test w ≡ true). let some : w ∷ filter test ws ≡ [] = rw yes at none in absurd (cc))
    (λ (no : test w ≡ false). let rest : filter test ws ≡ [] = rw no at none in (no, none-filter test ws rest))
    (cases_Bool (test w))

-- the place of a call to which a process owes something is a set
owed-set : (sems : Sems) (process : ℕ) (place : Option (Kind × ℕ)) → owes_at sems process place ≡ true → (id : ℕ) × (place ≡ Some (kinds.Sems, id)) × (owes sems process id ≡ true)
owed-set sems process None owed = absurd (false≢true owed)
owed-set sems process (Some (kinds.Queue, id)) owed = absurd (false≢true owed)
owed-set sems process (Some (kinds.Sems, id)) owed = (id, refl, owed)
owed-set sems process (Some (kinds.Segment, id)) owed = absurd (false≢true owed)

eqb-itself : (n : ℕ) → eqb n n ≡ true
eqb-itself n = grind arith

-- a call that waits on a set is touched where that is
abbrev pub on : ℕ → Waiting → Bool
on id w = waits_on kinds.Sems id w.call

on-set : (w : Waiting) (id : ℕ) → waits_at w.call ≡ Some (kinds.Sems, id) → on id w ≡ true
on-set w id at = ap (λ (o : Option (Kind × ℕ)). unwrap_or (option_map (λ place. is_same place.0 kinds.Sems && place.1 == id) o) false) at ∙ eqb-itself id

pub listed-more : (ids : List ℕ) (id : ℕ) (w : Waiting) → is_listed (ids ++ id ∷ []) w ≡ is_listed ids w || on id w
listed-more [] id w = or-false (on id w)
  where
    or-false : (b : Bool) → b || false ≡ false || b
    or-false true = refl
    or-false false = refl
listed-more (i ∷ ids) id w = ap (λ b. on i w || b) (listed-more ids id w) ∙ or-or (on i w) (is_listed ids w) (on id w)
  where
    or-or : (a b c : Bool) → a || (b || c) ≡ (a || b) || c
    or-or true b c = refl
    or-or false b c = refl

pub listed-kept : (ids : List ℕ) (id : ℕ) (w : Waiting) → is_listed ids w ≡ true → is_listed (ids ++ id ∷ []) w ≡ true
listed-kept ids id w is = listed-more ids id w ∙ ap (λ b. b || on id w) is

pub listed-new : (ids : List ℕ) (id : ℕ) (w : Waiting) → on id w ≡ true → is_listed (ids ++ id ∷ []) w ≡ true
listed-new ids id w is = listed-more ids id w ∙ or-one (is_listed ids w) (on id w) is
  where
    or-one : (a b : Bool) → b ≡ true → a || b ≡ true
    or-one true b is = refl
    or-one false b is = is

-- the sets before the next one; each comes before none
abbrev pub IsBefore : Option ℕ → ℕ → Type 0
IsBefore None id = Unit {0}
IsBefore (Some next) id = id < next

module _ (s : State) (process : ℕ) where
  -- a call that waits on a set before the next one to which the process owes something is touched
  abbrev pub Kept : Option ℕ → (Waiting → Bool) → Waiting → Type 0
  Kept next touched w = (id : ℕ) → waits_at w.call ≡ Some (kinds.Sems, id) → IsBefore next id → owes s.sems process id ≡ true → touched w ≡ true

  abbrev pub NoneTo : ℕ → Option ℕ → Type 0
  NoneTo from next = (id : ℕ) → from ≤ id → IsBefore next id → owes s.sems process id ≡ false

  pub none-to : (from : ℕ) (next : Option ℕ) → IfNone next ((id : ℕ) → from ≤ id → owes s.sems process id ≡ false)
      → IfSome next (λ n. (id : ℕ) → from ≤ id → id < n → owes s.sems process id ≡ false) → NoneTo from next
  none-to from None none least = λ id le before. none id le
  none-to from (Some n) none least = λ id le before. least id le before

  pub kept-first : (next : Option ℕ) (touched : Waiting → Bool) → NoneTo 0 next → AllByRecursion (λ w. Kept next touched w) s.parked
  kept-first next touched none = all-each (λ w. Kept next touched w) s.parked (λ w id at before owed. absurd (true≢false (sym owed ∙ none id (omega arith) before)))

  -- from one set to the next: what it touches, or that none waits on it
  module _ (here : ℕ) (next : Option ℕ) (touched : Waiting → Bool) (none : NoneTo (here + 1) next) where
    step : (now : Waiting → Bool) (w : Waiting) → (touched w ≡ true → now w ≡ true) → (waits_at w.call ≡ Some (kinds.Sems, here) → now w ≡ true)
        → Kept (Some here) touched w → Kept next now w
    step now w still on kept id at before owed =
        ⊎_elim
        (λ (same : id ≡ here). on (at ∙ ap (λ (n : ℕ). Some (kinds.Sems, n)) same))
        (λ (apart : id ≡ here → ⊥).
        ⊎_elim
        (λ (lower : id < here). still (kept id at lower owed))
        (λ (upper : here ≤ id). absurd (true≢false (sym owed ∙ none id (omega (arith, upper, apart)) before)))
        (cases_lt id here))
        (cases_eq id here)

    pub kept-touched : (now : Waiting → Bool) → ((w : Waiting) → touched w ≡ true → now w ≡ true) → ((w : Waiting) → on here w ≡ true → now w ≡ true)
        → AllByRecursion (λ w. Kept (Some here) touched w) s.parked → AllByRecursion (λ w. Kept next now w) s.parked
    kept-touched now still also all =
        all-map (λ w. Kept (Some here) touched w) (λ w. Kept next now w) s.parked
        (λ w kept. step now w (still w) (λ at. also w (on-set w here at)) kept) all

    pub kept-passed : AllByRecursion (λ w. on here w ≡ false) s.parked → AllByRecursion (λ w. Kept (Some here) touched w) s.parked → AllByRecursion (λ w. Kept next touched w) s.parked
    kept-passed off all =
        all-both (λ w. on here w ≡ false) (λ w. Kept (Some here) touched w) (λ w. Kept next touched w) s.parked
        (λ w not_on kept. step touched w (λ is. is) (λ at. absurd (true≢false (sym (on-set w here at) ∙ not_on))) kept) off all

  pub kept-all : (next : Option ℕ) (touched : Waiting → Bool) → next ≡ None → AllByRecursion (λ w. Kept next touched w) s.parked → CoversOwed s process touched
  kept-all None touched over all =
      all-map (λ w. Kept None touched w) (λ w. owes_at s.sems process (waits_at w.call) ≡ true → touched w ≡ true) s.parked
      (λ w kept owed. let at = owed-set s.sems process (waits_at w.call) owed in kept at.0 at.1 tt at.2) all
  kept-all (Some n) touched over all = cc

-- a kill touches what the end of the process touches that is found by the pid, and nothing where there is none
killed-none : (s : State) (place : Option (Kind × ℕ)) → unwrap_or (option_map (λ at. is_same kinds.Sems at.0 && false) place) false ≡ true → ⊥
killed-none s None on = false≢true on
killed-none s (Some (kinds.Queue, id)) on = false≢true on
killed-none s (Some (kinds.Sems, id)) on = false≢true on
killed-none s (Some (kinds.Segment, id)) on = false≢true on

pub covers-no-process : (s : State) (pid : ℕ) (touched : Waiting → Bool) → find (has_pid pid) s.threads ≡ None → CoversKilled s pid touched
covers-no-process s pid touched none =
    all-each (λ w. touches_place s 0 (Kill pid) w ≡ true → touched w ≡ true) s.parked
    (λ w on. let off = rw none at on in absurd (killed-none s (waits_at w.call) off))

pub covers-process : (s : State) (pid : ℕ) (thread : Thread) (touched : Waiting → Bool) → find (has_pid pid) s.threads ≡ Some thread → CoversOwed s thread.process touched → CoversKilled s pid touched
covers-process s pid thread touched found covers =
    all-map (λ w. owes_at s.sems thread.process (waits_at w.call) ≡ true → touched w ≡ true) (λ w. touches_place s 0 (Kill pid) w ≡ true → touched w ≡ true) s.parked
    (λ w owed on. owed (let of = rw found at on in of)) covers

-- what covers whatever the state, or whether a call is ready
pub covers-any : (s : State) (client : ℕ) (call : Call) (touched : Touched) → Covers call touched → CoversWaiting s client call (is_touched touched)
covers-any s client call touched covers =
    all-each (λ w. is_ready s w ≡ false → touches_place s client call w ≡ true → is_touched touched w ≡ true) s.parked (λ w. covers s client w)

pub covers-none : (s : State) (client : ℕ) (call : Call) (touched : Waiting → Bool) → s.parked ≡ [] → CoversWaiting s client call touched
covers-none s client call touched none =
    subst (λ (ws : List Waiting). AllByRecursion (λ w. is_ready s w ≡ false → touches_place s client call w ≡ true → touched w ≡ true) ws) (sym none) tt

pub covers-anyway : (s : State) (test : Waiting → Bool) (touched : Waiting → Bool) → AllByRecursion (λ w. test w ≡ true → touched w ≡ true) s.parked
    → AllByRecursion (λ w. is_ready s w ≡ false → test w ≡ true → touched w ≡ true) s.parked
covers-anyway s test touched covers =
    all-map (λ w. test w ≡ true → touched w ≡ true) (λ w. is_ready s w ≡ false → test w ≡ true → touched w ≡ true) s.parked (λ w h waits. h) covers

pub none-waiting : (es : List (ℕ × Arrival)) → length es ≡ 0 → waiting es ≡ []
none-waiting [] none = refl
none-waiting (e ∷ es) none = cc

-- none is ready, so also where some have left
pub covers-left : (s : State) (client : ℕ) (call : Call) (touched : Waiting → Bool) (stays : Waiting → Bool) → first_ready s ≡ None → CoversWaiting s client call touched
    → CoversWaiting (record s { parked = filter stays s.parked }) client call touched
covers-left s client call touched stays quiet covers =
    let now : State = record s { parked = filter stays s.parked } in
    let all = all-both (λ w. is_ready s w ≡ false) (λ w. is_ready s w ≡ false → touches_place s client call w ≡ true → touched w ≡ true)
    (λ w. is_ready now w ≡ false → touches_place now client call w ≡ true → touched w ≡ true) s.parked (λ w waits h also on. h waits on) (found-none (is_ready s) s.parked quiet) covers in
    all-filter (λ w. is_ready now w ≡ false → touches_place now client call w ≡ true → touched w ≡ true) stays s.parked all

-- what covers the end of a process that may end by the call
pub covers-ending : (s : State) (client : ℕ) (call : Call) (process : ℕ) (touched : Waiting → Bool) → ending s client call ≡ Some process → CoversOwed s process touched → CoversWaiting s client call touched
covers-ending s client Exit process touched is covers =
    covers-anyway s (touches_place s client Exit) touched (subst (λ (p : ℕ). CoversOwed s p touched) (sym (same_Some (process_at s client) process is)) covers)
covers-ending s client (Kill pid) process touched is covers = by (find (has_pid pid) s.threads) refl is
  where
    by : (o : Option Thread) → find (has_pid pid) s.threads ≡ o → option_map (λ t. t.process) o ≡ Some process → CoversWaiting s client (Kill pid) touched
    by None found is = absurd (none-some process is)
    by (Some thread) found is =
        covers-anyway s (touches_place s client (Kill pid)) touched
        (covers-process s pid thread touched found (subst (λ (p : ℕ). CoversOwed s p touched) (sym (same_Some thread.process process is)) covers))
covers-ending s client call process touched is covers = absurd (none-some process is)

pub whenever : {A : Type 0} (o : Option A) (P : Type 0) → P → IfNone o P
whenever None P p = p
whenever (Some x) P p = tt

-- no other call ends a process
pub no-ending : (s : State) (client : ℕ) (call : Call) → (call ≡ Exit → ⊥) → ((pid : ℕ) → call ≡ Kill pid → ⊥) → None ≡ ending s client call
no-ending s client Exit exits kills = absurd (exits refl)
no-ending s client (Kill pid) exits kills = absurd (kills pid refl)
no-ending s client call exits kills = refl

pub ends-none : (s : State) (client : ℕ) (call : Call) (o : Option Touched) → (call ≡ Exit → ⊥) → ((pid : ℕ) → call ≡ Kill pid → ⊥) → IfNone o (may_end call ≡ true) → IfNone o (IsSome (ending s client call))
ends-none s client call (Some touched) exits kills none = tt
ends-none s client Exit None exits kills none = absurd (exits refl)
ends-none s client (Kill pid) None exits kills none = absurd (kills pid refl)
ends-none s client call None exits kills none = absurd (false≢true none)

pub covered-by : (s : State) (client : ℕ) (call : Call) (o : Option Touched) → IfSome o (λ touched. Covers call touched) → IfSome o (λ touched. CoversWaiting s client call (is_touched touched))
covered-by s client call None covers = tt
covered-by s client call (Some touched) covers = covers-any s client call touched covers

pub covered-exit : (s : State) (client : ℕ) (o : Option Touched) → IfSome o (λ touched. CoversOwed s (process_at s client) (is_touched touched)) → IfSome o (λ touched. CoversWaiting s client Exit (is_touched touched))
covered-exit s client None covers = tt
covered-exit s client (Some touched) covers = covers-anyway s (touches_place s client Exit) (is_touched touched) covers

pub covered-kill : (s : State) (client pid : ℕ) (o : Option Touched) → IfSome o (λ touched. CoversKilled s pid (is_touched touched)) → IfSome o (λ touched. CoversWaiting s client (Kill pid) (is_touched touched))
covered-kill s client pid None covers = tt
covered-kill s client pid (Some touched) covers = covers-anyway s (touches_place s client (Kill pid)) (is_touched touched) covers

pub covered-process : (s : State) (pid : ℕ) (thread : Thread) (o : Option Touched) → find (has_pid pid) s.threads ≡ Some thread → IfSome o (λ touched. CoversOwed s thread.process (is_touched touched))
    → IfSome o (λ touched. CoversKilled s pid (is_touched touched))
covered-process s pid thread None found covers = tt
covered-process s pid thread (Some touched) found covers = covers-process s pid thread (is_touched touched) found covers

pub kill-ends : (s : State) (client pid : ℕ) (o : Option Touched) → IfNone o (IsSome (find (has_pid pid) s.threads)) → IfNone o (IsSome (ending s client (Kill pid)))
kill-ends s client pid (Some touched) some = tt
kill-ends s client pid None some = by (find (has_pid pid) s.threads) some
  where
    by : (t : Option Thread) → IsSome t → IsSome (option_map {U = ℕ} (λ t. t.process) t)
    by None some = some
    by (Some thread) some = some
