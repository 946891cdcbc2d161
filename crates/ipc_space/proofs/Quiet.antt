-- After an event no waiting call is ready, and then only a call that is served or waits changes more than the clock.
use Rattle.std.proofs.Common.{◌≡◌, ℕ, zero, suc, ◌+◌, ◌≤◌, Bool, true, false, List, [], ◌∷◌, length, refl, sym, ap, ◌∙◌, arith, ⊎_elim, Option, Some, None, Err, append-nil}
use Rattle.std.specs.Prelude.{◌==◌, not, filter}
use Rattle.std.specs.List.{find}
use Rattle.std.proofs.lemmas.Bool.{cases_Bool, eq-eqb, true≢false}
use Rattle.std.proofs.lemmas.Option.{none-some, same_Some}
use Rattle.ipc_call.specs.declared.calls.Call.{Call}
use Rattle.ipc_call.specs.declared.replies.Waiting.{Waiting}
use Rattle.ipc_call.specs.declared.rules.Rule.{Rule}
use Rattle.ipc_model.specs.State.{State, opening}
use Rattle.ipc_model.specs.Decision.{Decision, Refused, Waits, Granted}
use Rattle.ipc_model.specs.Decide.{decide}
use Rattle.ipc_model.specs.Step.{Event, at_time, begun, expire, after, end_waiting, ended_by, entered, first_ready, is_ready, settle, settle_from, settled, step, without}
use Rattle.ipc_model.specs.Decision.{outcome_of}
use Rattle.ipc_history.specs.History.{History, run, run_from, next_step}
use Rattle.ipc_model.specs.Step.{moved_by}
use Rattle.ipc_model.proofs.Calls.{Keeps-decide}
use Rattle.ipc_model.proofs.Growing.{Keeps}
use Rattle.ipc_namespace.proofs.Own.{others}
use Rattle.ipc_namespace.proofs.Settling.{quiet-at_time, quiet-expire, settled-none}
use Rattle.ipc_model.specs.Decide.{decide_call}

-- no waiting call is ready
abbrev pub IsQuiet : State → Type 0
IsQuiet s = first_ready s ≡ None

pub kept-ended_by : (s : State) (client : ℕ) (d : Decision State) → Keeps s d → (ended_by s client d).state.parked ≡ s.parked
kept-ended_by s client (Refused rule) keeps = refl
kept-ended_by s client Waits keeps = refl
kept-ended_by s client (Granted answer new) keeps = keeps.0

no-longer : (test : Waiting → Bool) (ws : List Waiting) → length (filter test ws) ≤ length ws
no-longer test [] = omega arith
no-longer test (w ∷ ws) =
    let rest = no-longer test ws in
    ⊎_elim
    (λ (yes : test w ≡ true). rw yes (omega (arith, rest)))
    (λ (no : test w ≡ false). rw no (omega (arith, rest)))
    (cases_Bool (test w))

-- who leaves the list shortens it
shorter-others : (test : Waiting → Bool) (ws : List Waiting) (w : Waiting) → find test ws ≡ Some w → length (others w.client ws) + 1 ≤ length ws
shorter-others test [] w found = absurd (none-some w found)
shorter-others test (v ∷ ws) w found =
    ⊎_elim
    (λ (own : (v.client == w.client) ≡ true). let rest = no-longer (λ u. not (u.client == w.client)) ws in rw own (omega (arith, rest)))
    (λ (other : (v.client == w.client) ≡ false).
    ⊎_elim
    (λ (yes : test v ≡ true).
    let first : Some v ≡ Some w = rw yes at found in
    absurd (true≢false (sym (eq-eqb v.client w.client (ap (λ (u : Waiting). u.client) (same_Some v w first))) ∙ other)))
    (λ (no : test v ≡ false).
    let later : find test ws ≡ Some w = rw no at found in
    let rest = shorter-others test ws w later in
    rw other (omega (arith, rest)))
    (cases_Bool (test v)))
    (cases_Bool (v.client == w.client))

shorter-end_waiting : (s : State) (w : Waiting) → first_ready s ≡ Some w → length (end_waiting s w).state.parked + 1 ≤ length s.parked
shorter-end_waiting s w first =
    let rest = without s w.client in
    let left = ap length (kept-ended_by rest w.client (decide rest w.client w.call) (Keeps-decide rest w.client w.call)) in
    let less = shorter-others (is_ready s) s.parked w first in
    omega (arith, left, less)

quiet-settle_from : (n : ℕ) → ((t : State) → length t.parked ≤ n → IsQuiet (settle n t).state) → (s : State) (o : Option Waiting) → o ≡ first_ready s → length s.parked ≤ suc n
    → IsQuiet (settle_from (settle n) s o).state
quiet-settle_from n quiet s None is few = sym is
quiet-settle_from n quiet s (Some w) is few =
    let left = shorter-end_waiting s w (sym is) in quiet (end_waiting s w).state (omega (arith, left, few))

found-nothing : (test : Waiting → Bool) (ws : List Waiting) → length ws ≤ 0 → find test ws ≡ None
found-nothing test [] few = refl
found-nothing test (w ∷ ws) few = absurd (omega (arith, few))

quiet-settle : (n : ℕ) (s : State) → length s.parked ≤ n → IsQuiet (settle n s).state
quiet-settle zero s few = found-nothing (is_ready s) s.parked few
quiet-settle (suc n) s few = quiet-settle_from n (quiet-settle n) s (first_ready s) refl few

pub quiet-settled : (s : State) → IsQuiet (settled s).state
quiet-settled s = quiet-settle (length s.parked) s (omega arith)

quiet-run_from : (s : State) (es : List Event) → IsQuiet s → IsQuiet (run_from s es)
quiet-run_from s [] quiet = quiet
quiet-run_from s (e ∷ es) quiet =
    let now = begun s e.now in quiet-run_from (step s e).state es (quiet-settled (moved_by now e.client e.call).state)

-- after every history no waiting call is ready
pub quiet-run : (h : History) → IsQuiet (run h)
quiet-run h = quiet-run_from (opening h.limits h.clients) h.events refl

-- a call that is refused, in a quiet state: nothing else changes
refused-entered : (s : State) (client : ℕ) (call : Call) (d : Decision State) (rule : Rule) → IsQuiet s → outcome_of d ≡ Some (Err rule)
    → entered s client call d ≡ record { state = s; own = Some (Err rule); ended = [] }
refused-entered s client call (Refused other) rule quiet own = λ i. record { state = (settled-none s quiet i).state; own = own i; ended = (settled-none s quiet i).ended }
refused-entered s client call Waits rule quiet own = absurd (none-some _ own)
refused-entered s client call (Granted answer new) rule quiet own = cc

-- where an event begins, none is ready
pub quiet-begun : (h : History) (now : ℕ) → IsQuiet (begun (run h) now)
quiet-begun h now = quiet-expire (at_time (run h) now) (quiet-at_time (run h) now (quiet-run h))

-- an event whose call is refused moves the clock on and ends the calls whose deadline is reached, and does nothing else
pub refused-step : (h : History) (e : Event) (rule : Rule) → (next_step h e).own ≡ Some (Err rule) → next_step h e ≡ record { state = begun (run h) e.now; own = Some (Err rule); ended = (expire (at_time (run h) e.now)).ended }
refused-step h e rule own =
    let now = begun (run h) e.now in
    let first = (expire (at_time (run h) e.now)).ended in
    ap (after first) (refused-entered now e.client e.call (decide_call now e.client e.call) rule (quiet-begun h e.now) own)
    ∙ (λ i. record { state = now; own = Some (Err rule); ended = append-nil first i })
