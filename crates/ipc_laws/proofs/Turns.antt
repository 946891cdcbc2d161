-- Settling, turn by turn: the number of turns doesn't matter, none is ready afterwards, and no client waits twice.
use Rattle.std.proofs.Common.{◌≡◌, ◌≤◌, ℕ, zero, suc, ◌+◌, Bool, true, false, List, [], ◌∷◌, ◌++◌, map, length, refl, sym, ap, subst, ◌∙◌, ⊎_elim, arith, Option, Some, None}
use Rattle.std.specs.Prelude.{◌==◌, not, is_none, filter, if◌then◌else◌}
use Rattle.std.specs.List.{AllByRecursion, IsDistinct, find, list_any}
use Rattle.std.proofs.lemmas.Bool.{cases_Bool, eq-eqb, or_parts, or_from}
use Rattle.std.proofs.lemmas.Option.{none-some, same_Some}
use Rattle.ipc_call.specs.declared.calls.Call.{Call}
use Rattle.ipc_call.specs.declared.replies.Waiting.{Waiting}
use Rattle.ipc_call.specs.declared.rules.Rule.TheVariants.{TimedOut}
use Rattle.ipc_model.specs.State.{State, is_waiting}
use Rattle.ipc_model.specs.Decision.{Decision, Refused, Waits, Granted, proceeds}
use Rattle.ipc_model.specs.Decide.{decide, decide_call, deadline_of, is_late, is_reached}
use Rattle.ipc_model.specs.Cancelled.{cancelled}
use Rattle.ipc_model.specs.Step.{Event, Moved, and_then, at_time, begun, cancelled_by, end_waiting, ended_by, expired, first_ready, is_ready, moved_by, settle, settle_from, settled, state_by, step, waiting_as, without}
use Rattle.ipc_history.specs.Waits.{AreInTime, AreNotReady, WaitOnce}
use Rattle.ipc_model.proofs.Beside.{clock-kept}
use Rattle.ipc_model.proofs.Calls.{Keeps-decide}
use Rattle.ipc_model.proofs.Late.{Keeps-call, late-granted, waits-early}
use Rattle.ipc_model.proofs.Plans.{IfGranted}
use Rattle.ipc_model.proofs.Growing.{Keeps}
use Rattle.ipc_laws.proofs.Lists.{all-filter, all-found, all-map, all-push, filter-all, filter-here, filter-not, find-here, find-not, none-found, none-passes, others, shorter-others}

abbrev pub done : State → Moved
done s = record { state = s; ended = [] }

-- who waits is left as it is
pub kept-ended : (s : State) (who : ℕ) (d : Decision State) → Keeps s d → (ended_by s who d).state.parked ≡ s.parked
kept-ended s who (Refused rule) keeps = refl
kept-ended s who Waits keeps = refl
kept-ended s who (Granted answer new) keeps = keeps.0

pub left-parked : (s : State) (w : Waiting) → (end_waiting s w).state.parked ≡ others w.client s.parked
left-parked s w = let rest = without s w.client in kept-ended rest w.client (decide rest w.client w.call) (Keeps-decide rest w.client w.call)

pub shorter-end : (s : State) (w : Waiting) → first_ready s ≡ Some w → length (end_waiting s w).state.parked + 1 ≤ length s.parked
shorter-end s w first =
    let left = ap length (left-parked s w) in
    let less = shorter-others (is_ready s) s.parked w first in
    omega (arith, left, less)

none-few : (ws : List Waiting) (test : Waiting → Bool) → length ws ≤ 0 → find test ws ≡ None
none-few [] test few = refl
none-few (w ∷ ws) test few = absurd (omega (arith, few))

settle-none : (n : ℕ) (s : State) → first_ready s ≡ None → settle n s ≡ done s
settle-none zero s none = refl
settle-none (suc n) s none = ap (λ o. settle_from (settle n) s o) none

pub settled-none : (s : State) → first_ready s ≡ None → settled s ≡ done s
settled-none s none = settle-none (length s.parked) s none

-- as many turns as the list is long are enough
enough-by : (n m : ℕ) → ((t : State) → length t.parked ≤ n → length t.parked ≤ m → settle n t ≡ settle m t) → (s : State) (o : Option Waiting) → first_ready s ≡ o → length s.parked ≤ suc n → length s.parked ≤ suc m
    → settle_from (settle n) s o ≡ settle_from (settle m) s o
enough-by n m later s None is few enough = refl
enough-by n m later s (Some w) is few enough =
    let less = shorter-end s w is in
    let rest = later (end_waiting s w).state (omega (arith, less, few)) (omega (arith, less, enough)) in
    λ i. record { state = (rest i).state; ended = (end_waiting s w).ended ++ (rest i).ended }

settle-enough : (n m : ℕ) (s : State) → length s.parked ≤ n → length s.parked ≤ m → settle n s ≡ settle m s
settle-enough zero m s few enough = sym (settle-none m s (none-few s.parked (is_ready s) few))
settle-enough (suc n) zero s few enough = settle-none (suc n) s (none-few s.parked (is_ready s) enough)
settle-enough (suc n) (suc m) s few enough = enough-by n m (settle-enough n m) s (first_ready s) refl few enough

pub settled-turn : (s : State) (w : Waiting) → first_ready s ≡ Some w → settled s ≡ and_then (end_waiting s w) settled
settled-turn s w first = by (length s.parked) (shorter-end s w first)
  where
    by : (n : ℕ) → length (end_waiting s w).state.parked + 1 ≤ n → settle n s ≡ and_then (end_waiting s w) settled
    by zero less = absurd (omega (arith, less))
    by (suc n) less =
        let last = (end_waiting s w).state in
        let same = settle-enough n (length last.parked) last (omega (arith, less)) (omega arith) in
        ap (λ o. settle_from (settle n) s o) first ∙ (λ i. record { state = (same i).state; ended = (end_waiting s w).ended ++ (same i).ended })

-- what holds of a settled state: of one where none is ready, and of any where it holds after the first turn
module _ (P Q : State → Type 0) (none : (s : State) → first_ready s ≡ None → P s → Q s) (turn : (s : State) (w : Waiting) → first_ready s ≡ Some w → P s → P (end_waiting s w).state)
    (back : (s : State) (w : Waiting) → first_ready s ≡ Some w → P s → Q (end_waiting s w).state → Q s) where
  turns-by : (n : ℕ) → ((t : State) → length t.parked ≤ n → P t → Q t) → (s : State) (o : Option Waiting) → first_ready s ≡ o → length s.parked ≤ suc n → P s → Q s
  turns-by n later s None is few holds = none s is holds
  turns-by n later s (Some w) is few holds = let less = shorter-end s w is in back s w is holds (later (end_waiting s w).state (omega (arith, less, few)) (turn s w is holds))

  turns : (n : ℕ) (s : State) → length s.parked ≤ n → P s → Q s
  turns zero s few holds = none s (none-few s.parked (is_ready s) few) holds
  turns (suc n) s few holds = turns-by n (turns n) s (first_ready s) refl few holds

  pub by-turns : (s : State) → P s → Q s
  by-turns s holds = turns (length s.parked) s (omega arith) holds

-- what each turn keeps
pub kept-settled : (P : State → Type 0) → ((s : State) (w : Waiting) → first_ready s ≡ Some w → P s → P (end_waiting s w).state) → (s : State) → P s → P (settled s).state
kept-settled P keeps s holds = by-turns P (λ t. P (settled t).state) (λ t is p. subst (λ (m : Moved). P m.state) (sym (settled-none t is)) p) keeps
    (λ t w is p later. subst (λ (m : Moved). P m.state) (sym (settled-turn t w is)) later) s holds

-- afterwards none is ready
pub quiet-settled : (s : State) → first_ready (settled s).state ≡ None
quiet-settled s = by-turns (λ t. Unit {0}) (λ t. first_ready (settled t).state ≡ None) (λ t is p. ap (λ (m : Moved). first_ready m.state) (settled-none t is) ∙ is) (λ t w is p. tt)
    (λ t w is p later. ap (λ (m : Moved). first_ready m.state) (settled-turn t w is) ∙ later) s tt

pub quiet-of : (s : State) → AreNotReady s → first_ready s ≡ None
quiet-of s quiet = none-found (is_ready s) s.parked quiet

pub not_ready-of : (s : State) → first_ready s ≡ None → AreNotReady s
not_ready-of s none = none-passes (is_ready s) s.parked none

-- no client waits twice
abbrev pub Apart : List Waiting → Type 0
Apart [] = Unit {0}
Apart (w ∷ ws) = AllByRecursion (λ v. (w.client == v.client) ≡ false) ws × Apart ws

abbrev pub Free : ℕ → List Waiting → Type 0
Free client ws = AllByRecursion (λ v. (v.client == client) ≡ false) ws

pub free-of : (client : ℕ) (ws : List Waiting) → list_any (λ w. w.client == client) ws ≡ false → Free client ws
free-of client [] none = tt
free-of client (w ∷ ws) none = let parts = or_parts (w.client == client) (list_any (λ v. v.client == client) ws) none in (parts.0, free-of client ws parts.1)

pub of-free : (client : ℕ) (ws : List Waiting) → Free client ws → list_any (λ w. w.client == client) ws ≡ false
of-free client [] free = refl
of-free client (w ∷ ws) free = or_from (w.client == client) (list_any (λ v. v.client == client) ws) free.0 (of-free client ws free.1)

all-clients : (client : ℕ) (ws : List Waiting) → AllByRecursion (λ y. (client == y) ≡ false) (map (λ w. w.client) ws) → AllByRecursion (λ v. (client == v.client) ≡ false) ws
all-clients client [] all = tt
all-clients client (w ∷ ws) all = (all.0, all-clients client ws all.1)

clients-all : (client : ℕ) (ws : List Waiting) → AllByRecursion (λ v. (client == v.client) ≡ false) ws → AllByRecursion (λ y. (client == y) ≡ false) (map (λ w. w.client) ws)
clients-all client [] all = tt
clients-all client (w ∷ ws) all = (all.0, clients-all client ws all.1)

apart-of : (ws : List Waiting) → IsDistinct (λ a b. a == b) (map (λ w. w.client) ws) → Apart ws
unfolding IsDistinct
apart-of [] once = tt
apart-of (w ∷ ws) once = (all-clients w.client ws once.0, apart-of ws once.1)

of-apart : (ws : List Waiting) → Apart ws → IsDistinct (λ a b. a == b) (map (λ w. w.client) ws)
unfolding IsDistinct
of-apart [] apart = tt
of-apart (w ∷ ws) apart = (clients-all w.client ws apart.0, of-apart ws apart.1)

pub apart-once : (s : State) → WaitOnce s → Apart s.parked
apart-once s once = apart-of s.parked once

pub once-apart : (s : State) → Apart s.parked → WaitOnce s
once-apart s apart = of-apart s.parked apart

pub apart-filter : (test : Waiting → Bool) (ws : List Waiting) → Apart ws → Apart (filter test ws)
apart-filter test [] apart = tt
apart-filter test (w ∷ ws) apart = ⊎_elim
    (λ (yes : test w ≡ true). rw yes (all-filter (λ v. (w.client == v.client) ≡ false) test ws apart.0, apart-filter test ws apart.1))
    (λ (no : test w ≡ false). rw no (apart-filter test ws apart.1))
    (cases_Bool (test w))

pub apart-push : (ws : List Waiting) (w : Waiting) → Apart ws → Free w.client ws → Apart (ws ++ w ∷ [])
apart-push [] w apart free = (tt, tt)
apart-push (v ∷ ws) w apart free = (all-push (λ u. (v.client == u.client) ≡ false) ws w apart.0 free.0, apart-push ws w apart.1 free.1)

pub apart-end : (s : State) (w : Waiting) → Apart s.parked → Apart (end_waiting s w).state.parked
apart-end s w apart = subst Apart (sym (left-parked s w)) (apart-filter (λ v. not (v.client == w.client)) s.parked apart)

pub apart-settled : (s : State) → Apart s.parked → Apart (settled s).state.parked
apart-settled s apart = kept-settled (λ t. Apart t.parked) (λ t w is p. apart-end t w p) s apart

pub apart-state_by : (s : State) (who : ℕ) (call : Call) (d : Decision State) → Keeps s d → Free who s.parked → Apart s.parked → Apart (state_by s who call d).parked
apart-state_by s who call (Refused rule) keeps free apart = apart
apart-state_by s who call Waits keeps free apart = apart-push s.parked (waiting_as s who call) apart free
apart-state_by s who call (Granted answer new) keeps free apart = subst Apart (sym keeps.0) apart

pub apart-cancelled_by : (s : State) (call : Call) (d : Decision State) → Apart s.parked → Apart (cancelled_by s call d).state.parked
apart-cancelled_by s call (Refused rule) apart = apart
apart-cancelled_by s call Waits apart = apart
apart-cancelled_by s call (Granted answer new) apart = apart-filter (λ w. is_none (cancelled s call w)) s.parked apart

pub apart-moved : (s : State) (who : ℕ) (call : Call) → Free who s.parked → Apart s.parked → Apart (moved_by s who call).state.parked
apart-moved s who call free apart =
    let d = decide_call s who call in
    apart-cancelled_by (state_by s who call d) call d (apart-state_by s who call d (Keeps-call s who call) free apart)

pub apart-step : (s : State) (e : Event) → is_waiting s e.client ≡ false → Apart s.parked → Apart (step s e).state.parked
apart-step s e free apart =
    let now = begun s e.now in
    let stays : Waiting → Bool = λ w. is_none (expired (at_time s e.now) w) in
    apart-settled (moved_by now e.client e.call).state
    (apart-moved now e.client e.call (all-filter (λ w. (w.client == e.client) ≡ false) stays s.parked (free-of e.client s.parked free)) (apart-filter stays s.parked apart))

-- none has reached its deadline, at this second of the clock
abbrev pub InTime : ℕ → List Waiting → Type 0
InTime clock ws = AllByRecursion (λ w. is_reached clock w.deadline ≡ false) ws

abbrev IsOnTime : ℕ → State → Type 0
IsOnTime clock s = (s.clock ≡ clock) × InTime clock s.parked

time-ended : (clock : ℕ) (s : State) (who : ℕ) (d : Decision State) → Keeps s d → IfGranted (λ answer new. new.clock ≡ s.clock) d → IsOnTime clock s → IsOnTime clock (ended_by s who d).state
time-ended clock s who (Refused rule) keeps kept on = on
time-ended clock s who Waits keeps kept on = on
time-ended clock s who (Granted answer new) keeps kept on = (kept ∙ on.0, subst (InTime clock) (sym keeps.0) on.1)

pub time-end : (clock : ℕ) (s : State) (w : Waiting) → IsOnTime clock s → IsOnTime clock (end_waiting s w).state
time-end clock s w on =
    let rest = without s w.client in
    time-ended clock rest w.client (decide rest w.client w.call) (Keeps-decide rest w.client w.call) (clock-kept rest w.client w.call)
    (on.0, all-filter (λ v. is_reached clock v.deadline ≡ false) (λ v. not (v.client == w.client)) s.parked on.1)

time-settled : (clock : ℕ) (s : State) → IsOnTime clock s → IsOnTime clock (settled s).state
time-settled clock s on = kept-settled (IsOnTime clock) (λ t w is on. time-end clock t w on) s on

time-state_by : (clock : ℕ) (s : State) (who : ℕ) (call : Call) (d : Decision State) → Keeps s d → IfGranted (λ answer new. new.clock ≡ s.clock) d → (d ≡ Waits → is_late s call ≡ false) → IsOnTime clock s → IsOnTime clock (state_by s who call d)
time-state_by clock s who call (Refused rule) keeps kept early on = on
time-state_by clock s who call Waits keeps kept early on =
    (on.0, all-push (λ w. is_reached clock w.deadline ≡ false) s.parked (waiting_as s who call) on.1 (ap (λ n. is_reached n (deadline_of s.clock call)) (sym on.0) ∙ early refl))
time-state_by clock s who call (Granted answer new) keeps kept early on = (kept ∙ on.0, subst (InTime clock) (sym keeps.0) on.1)

time-cancelled_by : (clock : ℕ) (s : State) (call : Call) (d : Decision State) → IsOnTime clock s → IsOnTime clock (cancelled_by s call d).state
time-cancelled_by clock s call (Refused rule) on = on
time-cancelled_by clock s call Waits on = on
time-cancelled_by clock s call (Granted answer new) on = (on.0, all-filter (λ w. is_reached clock w.deadline ≡ false) (λ w. is_none (cancelled s call w)) s.parked on.1)

pub time-moved : (clock : ℕ) (s : State) (who : ℕ) (call : Call) → IsOnTime clock s → IsOnTime clock (moved_by s who call).state
time-moved clock s who call on =
    let d = decide_call s who call in
    time-cancelled_by clock (state_by s who call d) call d
    (time-state_by clock s who call d (Keeps-call s who call) (late-granted _ (is_late s call) (decide s who call) (clock-kept s who call))
    (λ waits. waits-early (is_late s call) (decide s who call) (ap proceeds waits)) on)

-- those that aren't expired are in time
pub time-begun : (clock : ℕ) (ws : List Waiting) → InTime clock (filter (λ w. is_none (if is_reached clock w.deadline then Some TimedOut else None)) ws)
time-begun clock [] = tt
time-begun clock (w ∷ ws) = ⊎_elim
    (λ (is : is_reached clock w.deadline ≡ true). rw is (time-begun clock ws))
    (λ (isnt : is_reached clock w.deadline ≡ false). rw isnt (isnt, time-begun clock ws))
    (cases_Bool (is_reached clock w.deadline))

pub in-time-step : (s : State) (e : Event) → AreInTime (step s e).state
in-time-step s e =
    let now = begun s e.now in
    let on = time-settled now.clock (moved_by now e.client e.call).state (time-moved now.clock now e.client e.call (refl, time-begun now.clock s.parked)) in
    subst (λ n. InTime n (step s e).state.parked) (sym on.0) on.1

-- the first that passes is hidden: without its client's calls as many are left in sight
pub left-alike : (p q : Waiting → Bool) (ws : List Waiting) (w : Waiting) → Apart ws → find p ws ≡ Some w → q w ≡ false → filter q (others w.client ws) ≡ filter q ws
left-alike p q [] w apart found unseen = absurd (none-some w found)
left-alike p q (v ∷ ws) w apart found unseen = ⊎_elim
    (λ (yes : p v ≡ true).
    let same = same_Some v w (sym (find-here p v ws yes) ∙ found) in
    let own : (v.client == w.client) ≡ true = eq-eqb v.client w.client (ap (λ (u : Waiting). u.client) same) in
    ap (filter q) (filter-not (λ u. not (u.client == w.client)) v ws (ap not own) ∙ filter-all (λ u. not (u.client == w.client)) ws (others-apart v w ws same apart.0))
    ∙ sym (filter-not q v ws (ap q same ∙ unseen)))
    (λ (no : p v ≡ false).
    let later = sym (find-not p v ws no) ∙ found in
    let rest = left-alike p q ws w apart.1 later unseen in
    let other : (v.client == w.client) ≡ false = (all-found p (λ u. (v.client == u.client) ≡ false) ws w apart.0 later).0 in
    ap (filter q) (filter-here (λ u. not (u.client == w.client)) v ws (ap not other))
    ∙ ⊎_elim
    (λ (seen : q v ≡ true). filter-here q v (others w.client ws) seen ∙ ap (λ l. v ∷ l) rest ∙ sym (filter-here q v ws seen))
    (λ (hidden : q v ≡ false). filter-not q v (others w.client ws) hidden ∙ rest ∙ sym (filter-not q v ws hidden))
    (cases_Bool (q v)))
    (cases_Bool (p v))
  where
    others-apart : (v w : Waiting) (ws : List Waiting) → v ≡ w → AllByRecursion (λ u. (v.client == u.client) ≡ false) ws → AllByRecursion (λ u. not (u.client == w.client) ≡ true) ws
    others-apart v w ws same apart =
        all-map (λ u. (v.client == u.client) ≡ false) (λ u. not (u.client == w.client) ≡ true)
        (λ u ne. ap not (turned u.client w.client (ap (λ (x : Waiting). x.client == u.client) (sym same) ∙ ne))) ws apart
      where
        turned : (a b : ℕ) → (b == a) ≡ false → (a == b) ≡ false
        turned a b ne = grind arith
