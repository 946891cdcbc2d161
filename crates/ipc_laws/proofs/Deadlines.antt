-- After every event each deadline is above the clock, so settling that reads deadlines settles the same.
use Rattle.std.proofs.Common.{◌≡◌, ℕ, zero, suc, false, List, [], ◌∷◌, ◌++◌, length, refl, sym, ap, subst, ◌∙◌, Option, Some, None}
use Rattle.std.specs.List.{find}
use Rattle.ipc_call.specs.declared.replies.Waiting.{Waiting}
use Rattle.ipc_model.specs.State.{State, opening}
use Rattle.ipc_model.specs.Decision.{outcome_of, proceeds}
use Rattle.ipc_model.specs.Decide.{decide, decide_call, is_reached, unless_late}
use Rattle.ipc_model.specs.Step.{Event, Moved, after, and_then, at_time, begun, end_waiting, ended_by, expire, first_ready, is_ready, moved_by, settle, settle_from, step, stepped, without}
use Rattle.ipc_history.specs.Waits.{AreInTime}
use Rattle.ipc_history.specs.History.{History, run, run_from}
use Rattle.ipc_laws.specs.Deadlines.{decide_waiting, end_due_or_ready, settle_by_deadlines, settle_by_deadlines_from, step_by_deadlines}
use Rattle.ipc_laws.proofs.Lists.{all-found}
use Rattle.ipc_laws.proofs.Turns.{InTime, in-time-step, time-begun, time-end, time-moved}

in-time-run_from : (s : State) (es : List Event) → AreInTime s → AreInTime (run_from s es)
in-time-run_from s [] in_time = in_time
in-time-run_from s (e ∷ es) in_time = in-time-run_from (step s e).state es (in-time-step s e)

pub in-time-run : (h : History) → AreInTime (run h)
in-time-run h = in-time-run_from (opening h.limits h.clients) h.events tt

-- the first that is ready, or due: none is due
first-same : (s : State) (ws : List Waiting) → InTime s.clock ws → find (λ w. proceeds (decide_waiting s w)) ws ≡ find (is_ready s) ws
first-same s [] in_time = refl
first-same s (w ∷ ws) in_time = rw (in_time.0, first-same s ws in_time.1) refl

end-same : (s : State) (w : Waiting) → is_reached s.clock w.deadline ≡ false → end_due_or_ready s w ≡ end_waiting s w
end-same s w in_time =
    let rest = without s w.client in ap (λ late. ended_by rest w.client (unless_late late (decide rest w.client w.call))) in_time

settle-same-from : (turns : ℕ) → ((t : State) → AreInTime t → settle_by_deadlines turns t ≡ settle turns t) → (s : State) (o : Option Waiting) → first_ready s ≡ o → AreInTime s
    → settle_by_deadlines_from (settle_by_deadlines turns) s o ≡ settle_from (settle turns) s o
settle-same-from turns same s None first in_time = refl
settle-same-from turns same s (Some w) first in_time =
    let last = end_waiting s w in
    let on = time-end s.clock s w (refl, in_time) in
    let later : AreInTime last.state = subst (λ n. InTime n last.state.parked) (sym on.0) on.1 in
    let rest = same last.state later in
    ap (λ (m : Moved). and_then m (settle_by_deadlines turns)) (end-same s w (all-found (is_ready s) (λ v. is_reached s.clock v.deadline ≡ false) s.parked w in_time first).0)
    ∙ (λ i. record { state = (rest i).state; ended = last.ended ++ (rest i).ended })

settle-same : (turns : ℕ) (s : State) → AreInTime s → settle_by_deadlines turns s ≡ settle turns s
settle-same zero s in_time = refl
settle-same (suc turns) s in_time =
    ap (λ o. settle_by_deadlines_from (settle_by_deadlines turns) s o) (first-same s s.parked in_time) ∙ settle-same-from turns (settle-same turns) s (first_ready s) refl in_time

pub step-same : (s : State) (e : Event) → step s e ≡ step_by_deadlines s e
step-same s e =
    let now = begun s e.now in
    let moved = moved_by now e.client e.call in
    let on = time-moved now.clock now e.client e.call (refl, time-begun now.clock s.parked) in
    let in_time : AreInTime moved.state = subst (λ n. InTime n moved.state.parked) (sym on.0) on.1 in
    let rest = sym (settle-same (length moved.state.parked) moved.state in_time) in
    ap (λ (m : Moved). after (expire (at_time s e.now)).ended (stepped (outcome_of (decide_call now e.client e.call)) m))
    (λ i. record { state = (rest i).state; ended = moved.ended ++ (rest i).ended })
