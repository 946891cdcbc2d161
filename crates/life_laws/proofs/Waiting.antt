-- Who comes to wait by an event: its own client alone, where its call isn't answered.
use Rattle.std.proofs.Common.{◌≡◌, ◌≢◌, ℕ, true, false, List, [], ◌∷◌, ◌++◌, refl, sym, ap, subst, ◌∙◌, Some, None}
use Rattle.std.specs.Prelude.{◌==◌, is_none}
use Rattle.std.specs.List.{AllByRecursion, list_any}
use Rattle.std.proofs.lemmas.Bool.{eq-eqb, or_from, or_left, or_parts, or_right, ne_eqb, true≢false}
use Rattle.std.proofs.lemmas.Option.{none-some}
use Rattle.ipc_call.specs.declared.calls.Call.{Call}
use Rattle.ipc_call.specs.declared.replies.Waiting.{Waiting}
use Rattle.ipc_model.specs.State.{State, creds_at, is_waiting}
use Rattle.ipc_model.specs.Decision.{Decision, Granted, Outcome, Refused, Waits, outcome_of, proceeds}
use Rattle.ipc_model.specs.Plan.{Plan, decision}
use Rattle.ipc_model.specs.Decide.{decide, decide_call, is_late, waits_as}
use Rattle.ipc_model.specs.Cancelled.{cancelled}
use Rattle.ipc_model.specs.Step.{Event, Moved, at_time, begun, entered, expired, is_ready, moved_as, moved_by, settled, step, waiting_as}
use Rattle.ipc_model.proofs.Calls.{parked_alike}
use Rattle.ipc_model.proofs.Growing.{Keeps}
use Rattle.ipc_model.proofs.Late.{Keeps-call, late-waits, plan-as}
use Rattle.ipc_history.specs.History.{History, next_step, run, with_event}
use Rattle.life_laws.proofs.Steps.{run-with}
use Rattle.life_laws.proofs.Waits.{all-filter, all-map, all-push, all-settled, done, none-found, none-passes, quiet-begun, quiet-run, settled-none}

-- no call of the client is in the list
abbrev pub Free : ℕ → List Waiting → Type 0
Free client ws = AllByRecursion (λ w. (w.client == client) ≡ false) ws

pub free-of : (client : ℕ) (ws : List Waiting) → list_any (λ w. w.client == client) ws ≡ false → Free client ws
free-of client [] none = tt
free-of client (w ∷ ws) none = let parts = or_parts (w.client == client) (list_any (λ v. v.client == client) ws) none in (parts.0, free-of client ws parts.1)

pub of-free : (client : ℕ) (ws : List Waiting) → Free client ws → list_any (λ w. w.client == client) ws ≡ false
of-free client [] free = refl
of-free client (w ∷ ws) free = or_from (w.client == client) (list_any (λ v. v.client == client) ws) free.0 (of-free client ws free.1)

free-moved : (client : ℕ) (s : State) (who : ℕ) (call : Call) (d : Decision State) → Keeps s d → (proceeds d ≡ false → (who == client) ≡ false) → Free client s.parked
    → Free client (moved_as s who call d).state.parked
free-moved client s who call (Refused rule) keeps other free = free
free-moved client s who call Waits keeps other free = all-push (λ w. (w.client == client) ≡ false) s.parked (waiting_as s who call) free (other refl)
free-moved client s who call (Granted answer new) keeps other free =
    all-filter (λ w. (w.client == client) ≡ false) (λ w. is_none (cancelled new call w)) new.parked (subst (Free client) (sym keeps.0) free)

free-step : (client : ℕ) (s : State) (e : Event) → (proceeds (decide_call (begun s e.now) e.client e.call) ≡ false → (e.client == client) ≡ false) → Free client s.parked
    → Free client (step s e).state.parked
free-step client s e other free =
    let now = begun s e.now in
    all-settled (λ w. (w.client == client) ≡ false) (moved_by now e.client e.call).state
    (free-moved client now e.client e.call (decide_call now e.client e.call) (Keeps-call now e.client e.call) other
    (all-filter (λ w. (w.client == client) ≡ false) (λ w. is_none (expired (at_time s e.now) w)) s.parked free))

module _ (h : History) (e : Event) where
  waits-as-before : (client : ℕ) → (proceeds (decide_call (begun (run h) e.now) e.client e.call) ≡ false → (e.client == client) ≡ false)
      → is_waiting (run h) client ≡ false → is_waiting (run (with_event h e)) client ≡ false
  waits-as-before client other free =
      ap (λ (t : State). is_waiting t client) (run-with h e)
      ∙ of-free client (next_step h e).state.parked (free-step client (run h) e other (free-of client (run h).parked free))

  pub others-wait : (client : ℕ) → client ≢ e.client → is_waiting (run h) client ≡ false → is_waiting (run (with_event h e)) client ≡ false
  others-wait client ne free = waits-as-before client (λ waits. ne_eqb e.client client (λ same. ne (sym same))) free

  pub answered-waits : (outcome : Outcome) → is_waiting (run h) e.client ≡ false → (next_step h e).own ≡ Some outcome → is_waiting (run (with_event h e)) e.client ≡ false
  answered-waits outcome free own = waits-as-before e.client (by (decide_call (begun (run h) e.now) e.client e.call) own) free
    where
      by : (d : Decision State) → outcome_of d ≡ Some outcome → proceeds d ≡ false → (e.client == e.client) ≡ false
      by (Refused rule) is waits = absurd (true≢false waits)
      by Waits is waits = absurd (none-some outcome is)
      by (Granted answer new) is waits = absurd (true≢false waits)

-- the last of a list is there
last-there : (ws : List Waiting) (w : Waiting) → list_any (λ v. v.client == w.client) (ws ++ w ∷ []) ≡ true
last-there [] w = or_left (w.client == w.client) false (eq-eqb w.client w.client refl)
last-there (v ∷ ws) w = or_right (v.client == w.client) (list_any (λ u. u.client == w.client) (ws ++ w ∷ [])) (last-there ws w)

-- a call that isn't answered isn't ready when the calls are looked at that wait
module _ (s : State) (client : ℕ) (call : Call) (quiet : AllByRecursion (λ w. is_ready s w ≡ false) s.parked) (waits : proceeds (decide s client call) ≡ false) where
  abbrev longer : State
  longer = record s { parked = s.parked ++ waiting_as s client call ∷ [] }

  own-waits : is_ready longer (waiting_as s client call) ≡ false
  own-waits =
      parked_alike s longer.parked client (waits_as call)
      ∙ ap (λ (p : Plan State). proceeds (decision (creds_at s client) p)) (plan-as s client call)
      ∙ waits

  longer-quiet : AllByRecursion (λ w. is_ready longer w ≡ false) longer.parked
  longer-quiet =
      all-push (λ w. is_ready longer w ≡ false) s.parked (waiting_as s client call)
      (all-map (λ w. is_ready s w ≡ false) (λ w. is_ready longer w ≡ false) (λ w not_yet. parked_alike s longer.parked w.client w.call ∙ not_yet) s.parked quiet)
      own-waits

  pub stays-settled : settled longer ≡ done longer
  stays-settled = settled-none longer (none-found (is_ready longer) longer.parked longer-quiet)

  stays-waiting : is_waiting (settled longer).state client ≡ true
  stays-waiting =
      ap (λ (m : Moved). is_waiting m.state client) stays-settled
      ∙ last-there s.parked (waiting_as s client call)

module _ (h : History) (e : Event) where
  abbrev at : State
  at = begun (run h) e.now

  pub unanswered-waits : (next_step h e).own ≡ None → is_waiting (run (with_event h e)) e.client ≡ true
  unanswered-waits own = ap (λ (t : State). is_waiting t e.client) (run-with h e) ∙ by (decide_call at e.client e.call) refl own
    where
      by : (d : Decision State) → decide_call at e.client e.call ≡ d → outcome_of d ≡ None → is_waiting (entered at e.client e.call d).state e.client ≡ true
      by (Refused rule) is none = absurd (none-some _ (sym none))
      by Waits is none =
          stays-waiting at e.client e.call (none-passes (is_ready at) at.parked (quiet-begun (run h) e.now (quiet-run h)))
          (late-waits (is_late at e.call) (decide at e.client e.call) (ap (λ (d : Decision State). proceeds d) is))
      by (Granted answer new) is none = absurd (none-some _ (sym none))
