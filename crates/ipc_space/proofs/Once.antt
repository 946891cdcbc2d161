-- No client waits twice, after any legal history.
use Rattle.std.proofs.Common.{◌≡◌, ℕ, zero, suc, false, eqb, List, [], ◌∷◌, map, sym, subst, Option, Some, None, Bool}
use Rattle.std.specs.Prelude.{◌==◌, not, is_none}
use Rattle.std.specs.List.{IsDistinct}
use Rattle.ipc_call.specs.declared.calls.Call.{Call}
use Rattle.ipc_call.specs.declared.replies.Waiting.{Waiting}
use Rattle.ipc_model.specs.State.{State, opening, is_waiting}
use Rattle.ipc_model.specs.Decision.{Decision, Refused, Waits, Granted}
use Rattle.ipc_model.specs.Decide.{decide, decide_call}
use Rattle.ipc_model.specs.Cancelled.{cancelled}
use Rattle.ipc_history.specs.History.{AreLegalFrom, History, IsLegal, IsLegalAt, run, run_from}
use Rattle.ipc_model.specs.Step.{Event, at_time, begun, expired, waiting_as, end_waiting, ended_by, first_ready, cancelled_by, settle, settle_from, state_by, step, without}
use Rattle.ipc_parked.specs.Parked.{AreApart}
use Rattle.ipc_model.proofs.Calls.{Keeps-decide}
use Rattle.ipc_model.proofs.Growing.{Keeps}
use Rattle.ipc_namespace.proofs.Parked.{apart-filter, apart-push, distinct, list_any-filter}
use Rattle.ipc_model.proofs.Late.{Keeps-call}

apart-ended_by : (s : State) (client : ℕ) (d : Decision State) → Keeps s d → AreApart s.parked → AreApart (ended_by s client d).state.parked
apart-ended_by s client (Refused rule) keeps apart = apart
apart-ended_by s client Waits keeps apart = apart
apart-ended_by s client (Granted answer new) keeps apart = subst AreApart (sym keeps.0) apart

pub apart-end_waiting : (s : State) (w : Waiting) → AreApart s.parked → AreApart (end_waiting s w).state.parked
apart-end_waiting s w apart =
    let rest = without s w.client in
    apart-ended_by rest w.client (decide rest w.client w.call) (Keeps-decide rest w.client w.call) (apart-filter (λ v. not (v.client == w.client)) s.parked apart)

apart-settle_from : (n : ℕ) → ((t : State) → AreApart t.parked → AreApart (settle n t).state.parked) → (s : State) (o : Option Waiting) → AreApart s.parked → AreApart (settle_from (settle n) s o).state.parked
apart-settle_from n settles s None apart = apart
apart-settle_from n settles s (Some w) apart = settles (end_waiting s w).state (apart-end_waiting s w apart)

pub apart-settle : (n : ℕ) (s : State) → AreApart s.parked → AreApart (settle n s).state.parked
apart-settle zero s apart = apart
apart-settle (suc n) s apart = apart-settle_from n (apart-settle n) s (first_ready s) apart

pub apart-state_by : (s : State) (client : ℕ) (call : Call) (d : Decision State) → Keeps s d → is_waiting s client ≡ false → AreApart s.parked → AreApart (state_by s client call d).parked
apart-state_by s client call (Refused rule) keeps free apart = apart
apart-state_by s client call Waits keeps free apart = apart-push s.parked (waiting_as s client call) apart free
apart-state_by s client call (Granted answer new) keeps free apart = subst AreApart (sym keeps.0) apart

pub apart-cancelled_by : (s : State) (call : Call) (d : Decision State) → AreApart s.parked → AreApart (cancelled_by s call d).state.parked
apart-cancelled_by s call (Refused rule) apart = apart
apart-cancelled_by s call Waits apart = apart
apart-cancelled_by s call (Granted answer new) apart = apart-filter (λ w. is_none (cancelled s call w)) s.parked apart

pub apart-step : (s : State) (e : Event) → IsLegalAt s e → AreApart s.parked → AreApart (step s e).state.parked
apart-step s e legal apart =
    let now = begun s e.now in
    let stays : Waiting → Bool = λ w. is_none (expired (at_time s e.now) w) in
    let d = decide_call now e.client e.call in
    let entered = state_by now e.client e.call d in
    let moved = (cancelled_by entered e.call d).state in
    apart-settle _ moved (apart-cancelled_by entered e.call d (apart-state_by now e.client e.call d (Keeps-call now e.client e.call) (list_any-filter (λ w. w.client == e.client) stays s.parked legal.free) (apart-filter stays s.parked apart)))

apart-run_from : (s : State) (es : List Event) → AreLegalFrom s es → AreApart s.parked → AreApart (run_from s es).parked
apart-run_from s [] legal apart = apart
apart-run_from s (e ∷ es) legal apart = apart-run_from (step s e).state es legal.1 (apart-step s e legal.0 apart)

-- none waits at the opening
pub none_apart : AreApart []
unfolding AreApart
none_apart = tt

pub apart-run : (h : History) → IsLegal h → AreApart (run h).parked
apart-run h legal = apart-run_from (opening h.limits h.clients) h.events legal none_apart

pub waits_once : (h : History) → IsLegal h → IsDistinct eqb (map (λ w. w.client) (run h).parked)
waits_once h legal = distinct (run h).parked (apart-run h legal)
