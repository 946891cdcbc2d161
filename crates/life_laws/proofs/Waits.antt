-- The calls that wait while an event goes on: each is one that may wait, and when none is left that is ready, the clients are
-- what they were.
use Rattle.std.proofs.Common.{◌≡◌, ◌≤◌, ℕ, zero, suc, ◌+◌, Bool, true, false, List, [], ◌∷◌, ◌++◌, length, refl, sym, ap, subst, ◌∙◌, ⊎_elim, arith, Option, Some, None}
use Rattle.std.specs.Prelude.{◌==◌, not, is_none, is_some, filter}
use Rattle.std.specs.List.{AllByRecursion, find}
use Rattle.std.proofs.lemmas.Bool.{cases_Bool, eq-eqb, true≢false}
use Rattle.std.proofs.lemmas.Option.{none-some, same_Some}
use Rattle.ipc_call.specs.declared.calls.Call.{Call}
use Rattle.ipc_call.specs.declared.replies.Waiting.{Waiting}
use Rattle.ipc_model.specs.State.{State, opening}
use Rattle.ipc_model.specs.Decision.{Decision, Refused, Waits, Granted, proceeds}
use Rattle.ipc_model.specs.Decide.{can_wait, decide, decide_call}
use Rattle.ipc_model.specs.Cancelled.{cancelled}
use Rattle.ipc_model.specs.Step.{Event, Moved, at_time, begun, end_waiting, ended_by, expired, first_ready, is_ready, moved_as, moved_by, settle, settle_from, settled, step, waiting_as, without}
use Rattle.ipc_model.proofs.Beside.{KeepsClients, clients-kept}
use Rattle.ipc_model.proofs.Calls.{Keeps-decide, clock_alike, parked_alike}
use Rattle.ipc_model.proofs.Growing.{Keeps}
use Rattle.ipc_model.proofs.Lasting.{KeepsShared, waits-keeps}
use Rattle.ipc_model.proofs.Late.{Keeps-call, at-as, only_parkable_call}
use Rattle.ipc_model.proofs.Plans.{IfGranted}
use Rattle.ipc_model.proofs.Turning.{not-changing}
use Rattle.ipc_history.specs.History.{History, run, run_from}

-- LISTS OF WAITING CALLS

module _ (P : Waiting → Type 0) where
  pub all-filter : (test : Waiting → Bool) (ws : List Waiting) → AllByRecursion P ws → AllByRecursion P (filter test ws)
  all-filter test [] all = tt
  all-filter test (w ∷ ws) all = ⊎_elim
      (λ (yes : test w ≡ true). rw yes (all.0, all-filter test ws all.1))
      (λ (no : test w ≡ false). rw no (all-filter test ws all.1))
      (cases_Bool (test w))

  pub all-push : (ws : List Waiting) (w : Waiting) → AllByRecursion P ws → P w → AllByRecursion P (ws ++ w ∷ [])
  all-push [] w all p = (p, tt)
  all-push (v ∷ ws) w all p = (all.0, all-push ws w all.1 p)

  pub all-map : (Q : Waiting → Type 0) → ((w : Waiting) → P w → Q w) → (ws : List Waiting) → AllByRecursion P ws → AllByRecursion Q ws
  all-map Q so [] all = tt
  all-map Q so (w ∷ ws) all = (so w all.0, all-map Q so ws all.1)

module _ (test : Waiting → Bool) where
  find-here : (w : Waiting) (ws : List Waiting) → test w ≡ true → find test (w ∷ ws) ≡ Some w
  find-here w ws is = rw is refl

  find-not : (w : Waiting) (ws : List Waiting) → test w ≡ false → find test (w ∷ ws) ≡ find test ws
  find-not w ws isnt = rw isnt refl

  pub all-found : (P : Waiting → Type 0) (ws : List Waiting) (w : Waiting) → AllByRecursion P ws → find test ws ≡ Some w → P w
  all-found P [] w all found = absurd (none-some w found)
  all-found P (v ∷ ws) w all found = ⊎_elim
      (λ (yes : test v ≡ true). subst P (same_Some v w (sym (find-here v ws yes) ∙ found)) all.0)
      (λ (no : test v ≡ false). all-found P ws w all.1 (sym (find-not v ws no) ∙ found))
      (cases_Bool (test v))

  pub none-passes : (ws : List Waiting) → find test ws ≡ None → AllByRecursion (λ w. test w ≡ false) ws
  none-passes [] none = tt
  none-passes (w ∷ ws) none = ⊎_elim
      (λ (yes : test w ≡ true). absurd (none-some w (sym none ∙ find-here w ws yes)))
      (λ (no : test w ≡ false). (no, none-passes ws (sym (find-not w ws no) ∙ none)))
      (cases_Bool (test w))

  pub none-found : (ws : List Waiting) → AllByRecursion (λ w. test w ≡ false) ws → find test ws ≡ None
  none-found [] all = refl
  none-found (w ∷ ws) all = find-not w ws all.0 ∙ none-found ws all.1

  filter-shorter : (ws : List Waiting) → length (filter test ws) ≤ length ws
  filter-shorter [] = omega arith
  filter-shorter (w ∷ ws) =
      let rest = filter-shorter ws in
      ⊎_elim (λ (yes : test w ≡ true). rw yes (omega (arith, rest))) (λ (no : test w ≡ false). rw no (omega (arith, rest))) (cases_Bool (test w))

-- the calls of the other clients
abbrev pub others : ℕ → List Waiting → List Waiting
others client ws = filter (λ w. not (w.client == client)) ws

shorter-others : (test : Waiting → Bool) (ws : List Waiting) (w : Waiting) → find test ws ≡ Some w → length (others w.client ws) + 1 ≤ length ws
shorter-others test [] w found = absurd (none-some w found)
shorter-others test (v ∷ ws) w found = ⊎_elim
    (λ (own : (v.client == w.client) ≡ true). let rest = filter-shorter (λ u. not (u.client == w.client)) ws in rw own (omega (arith, rest)))
    (λ (other : (v.client == w.client) ≡ false).
    ⊎_elim
    (λ (yes : test v ≡ true). absurd (true≢false (sym (eq-eqb v.client w.client (ap (λ (u : Waiting). u.client) (same_Some v w (sym (find-here test v ws yes) ∙ found)))) ∙ other)))
    (λ (no : test v ≡ false). let rest = shorter-others test ws w (sym (find-not test v ws no) ∙ found) in rw other (omega (arith, rest)))
    (cases_Bool (test v)))
    (cases_Bool (v.client == w.client))

-- A WAITING CALL ENDS

kept-ended : (s : State) (who : ℕ) (d : Decision State) → Keeps s d → (ended_by s who d).state.parked ≡ s.parked
kept-ended s who (Refused rule) keeps = refl
kept-ended s who Waits keeps = refl
kept-ended s who (Granted answer new) keeps = keeps.0

left-parked : (s : State) (w : Waiting) → (end_waiting s w).state.parked ≡ others w.client s.parked
left-parked s w = let rest = without s w.client in kept-ended rest w.client (decide rest w.client w.call) (Keeps-decide rest w.client w.call)

-- who the clients are, and what is attached
pub record AreSame (s t : State) : Type 0 where
  pub threads : t.threads ≡ s.threads
  pub clients : t.clients ≡ s.clients
  pub shared : t.shared ≡ s.shared

same : (s : State) → AreSame s s
same s = record { threads = refl; clients = refl; shared = refl }

same-on : (s t u : State) → AreSame s t → AreSame t u → AreSame s u
same-on s t u first second = record {
  threads = second.threads ∙ first.threads;
  clients = second.clients ∙ first.clients;
  shared = second.shared ∙ first.shared;
}

same-ended : (s : State) (who : ℕ) (d : Decision State) → IfGranted (KeepsClients s) d → IfGranted (KeepsShared s) d → AreSame s (ended_by s who d).state
same-ended s who (Refused rule) kept also = same s
same-ended s who Waits kept also = same s
same-ended s who (Granted answer new) kept also = record { threads = kept.1; clients = kept.0; shared = also }

same-end : (s : State) (w : Waiting) → can_wait w.call ≡ true → AreSame s (end_waiting s w).state
same-end s w can =
    let rest = without s w.client in
    let kept = same-ended rest w.client (decide rest w.client w.call) (clients-kept rest w.client w.call (not-changing w.call can)) (waits-keeps rest w.client w.call can) in
    record { threads = kept.threads; clients = kept.clients; shared = kept.shared }

-- AND ALL THAT ARE READY

abbrev pub CanWait : List Waiting → Type 0
CanWait ws = AllByRecursion (λ w. can_wait w.call ≡ true) ws

-- what is so of each that waits is so of those that are left
module _ (P : Waiting → Type 0) where
  all-settle : (n : ℕ) (s : State) → AllByRecursion P s.parked → AllByRecursion P (settle n s).state.parked
  all-settle zero s all = all
  all-settle (suc n) s all = by (all-settle n) (first_ready s)
    where
      by : ((t : State) → AllByRecursion P t.parked → AllByRecursion P (settle n t).state.parked) → (o : Option Waiting) → AllByRecursion P (settle_from (settle n) s o).state.parked
      by rest None = all
      by rest (Some w) = rest (end_waiting s w).state (subst (AllByRecursion P) (sym (left-parked s w)) (all-filter P (λ v. not (v.client == w.client)) s.parked all))

  pub all-settled : (s : State) → AllByRecursion P s.parked → AllByRecursion P (settled s).state.parked
  all-settled s all = all-settle (length s.parked) s all

same-settle : (n : ℕ) (s : State) → CanWait s.parked → AreSame s (settle n s).state
same-settle zero s can = same s
same-settle (suc n) s can = by (same-settle n) (first_ready s) refl
  where
    by : ((t : State) → CanWait t.parked → AreSame t (settle n t).state) → (o : Option Waiting) → first_ready s ≡ o → AreSame s (settle_from (settle n) s o).state
    by rest None is = same s
    by rest (Some w) is =
        let last = (end_waiting s w).state in
        same-on s last (settle n last).state (same-end s w (all-found (is_ready s) (λ v. can_wait v.call ≡ true) s.parked w can is))
        (rest last (subst CanWait (sym (left-parked s w)) (all-filter (λ v. can_wait v.call ≡ true) (λ v. not (v.client == w.client)) s.parked can)))

pub same-settled : (s : State) → CanWait s.parked → AreSame s (settled s).state
same-settled s can = same-settle (length s.parked) s can

-- afterwards none is ready
none-few : (ws : List Waiting) (test : Waiting → Bool) → length ws ≤ 0 → find test ws ≡ None
none-few [] test few = refl
none-few (w ∷ ws) test few = absurd (omega (arith, few))

quiet-settle : (n : ℕ) (s : State) → length s.parked ≤ n → first_ready (settle n s).state ≡ None
quiet-settle zero s few = none-few s.parked (is_ready s) few
quiet-settle (suc n) s few = by (quiet-settle n) (first_ready s) refl
  where
    by : ((t : State) → length t.parked ≤ n → first_ready (settle n t).state ≡ None) → (o : Option Waiting) → first_ready s ≡ o → first_ready (settle_from (settle n) s o).state ≡ None
    by rest None is = is
    by rest (Some w) is =
        let left = ap length (left-parked s w) in
        let less = shorter-others (is_ready s) s.parked w is in
        rest (end_waiting s w).state (omega (arith, left, less, few))

pub quiet-settled : (s : State) → first_ready (settled s).state ≡ None
quiet-settled s = quiet-settle (length s.parked) s (omega arith)

abbrev pub done : State → Moved
done s = record { state = s; ended = [] }

settle-none : (n : ℕ) (s : State) → first_ready s ≡ None → settle n s ≡ done s
settle-none zero s none = refl
settle-none (suc n) s none = ap (λ o. settle_from (settle n) s o) none

pub settled-none : (s : State) → first_ready s ≡ None → settled s ≡ done s
settled-none s none = settle-none (length s.parked) s none

-- AN EVENT

can-moved : (s : State) (who : ℕ) (call : Call) (d : Decision State) → (proceeds d ≡ false → can_wait call ≡ true) → Keeps s d → CanWait s.parked → CanWait (moved_as s who call d).state.parked
can-moved s who call (Refused rule) can keeps are = are
can-moved s who call Waits can keeps are = all-push (λ w. can_wait w.call ≡ true) s.parked (waiting_as s who call) are (ap (λ at. is_some at) (at-as call) ∙ can refl)
can-moved s who call (Granted answer new) can keeps are =
    all-filter (λ w. can_wait w.call ≡ true) (λ w. is_none (cancelled new call w)) new.parked (subst CanWait (sym keeps.0) are)

module _ (s : State) (e : Event) (can : CanWait s.parked) where
  abbrev pub now : State
  now = begun s e.now

  abbrev pub moved : State
  moved = (moved_by now e.client e.call).state

  pub can-now : CanWait now.parked
  can-now = all-filter (λ w. can_wait w.call ≡ true) (λ w. is_none (expired (at_time s e.now) w)) s.parked can

  pub can-after : CanWait moved.parked
  can-after = can-moved now e.client e.call (decide_call now e.client e.call) (only_parkable_call now e.client e.call) (Keeps-call now e.client e.call) can-now

  pub can-step : CanWait (step s e).state.parked
  can-step = all-settled (λ w. can_wait w.call ≡ true) moved can-after

  -- the clients are those that the call leaves
  pub same-step : AreSame moved (step s e).state
  same-step = same-settled moved can-after

-- and none is ready
quiet-from : (s : State) (es : List Event) → first_ready s ≡ None → first_ready (run_from s es) ≡ None
quiet-from s [] none = none
quiet-from s (e ∷ es) none = quiet-from (step s e).state es (quiet-settled (moved_by (begun s e.now) e.client e.call).state)

pub quiet-run : (h : History) → first_ready (run h) ≡ None
quiet-run h = quiet-from (opening h.limits h.clients) h.events refl

-- nor is one where an event begins
pub quiet-begun : (s : State) (now : ℕ) → first_ready s ≡ None → first_ready (begun s now) ≡ None
quiet-begun s now none =
    none-found (is_ready (begun s now)) (begun s now).parked
    (all-filter (λ w. is_ready (begun s now) w ≡ false) (λ w. is_none (expired (at_time s now) w)) s.parked
    (all-map (λ w. is_ready s w ≡ false) (λ w. is_ready (begun s now) w ≡ false)
    (λ w waits. parked_alike (at_time s now) (begun s now).parked w.client w.call ∙ clock_alike s now w.client w.call ∙ waits)
    s.parked (none-passes (is_ready s) s.parked none)))

can-from : (s : State) (es : List Event) → CanWait s.parked → CanWait (run_from s es).parked
can-from s [] can = can
can-from s (e ∷ es) can = can-from (step s e).state es (can-step s e can)

-- after every history each call that waits is one that may wait
pub can-run : (h : History) → CanWait (run h).parked
can-run h = can-from (opening h.limits h.clients) h.events tt
