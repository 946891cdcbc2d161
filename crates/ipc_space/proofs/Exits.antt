-- Exits before all else: no call waits after them.
use Rattle.std.proofs.Common.{◌≡◌, ℕ, zero, suc, ◌+◌, Bool, true, false, List, [], ◌∷◌, ◌++◌, length, map, refl, sym, ap, subst, ◌∙◌, arith, None}
use Rattle.std.specs.Prelude.{filter, is_none, ◌==◌}
use Rattle.std.specs.List.{range_with_len}
use Rattle.std.proofs.lemmas.Bool.{false≢true}
use Rattle.ipc_call.specs.declared.calls.Call.{Call}
use Rattle.ipc_call.specs.declared.calls.Call.TheVariants.{Exit}
use Rattle.ipc_call.specs.declared.replies.Waiting.{Waiting}
use Rattle.ipc_model.specs.State.{State, is_waiting, opening}
use Rattle.ipc_model.specs.Decision.{Decision, Granted, Refused, Waits, proceeds}
use Rattle.ipc_model.specs.Decide.{decide}
use Rattle.ipc_model.specs.Cancelled.{cancelled}
use Rattle.ipc_model.specs.Step.{Event, begun, cancelled_by, entered, expired, at_time, moved_as, settled, step}
use Rattle.ipc_model.proofs.Calls.{Keeps-decide, only_parkable}
use Rattle.ipc_model.proofs.Growing.{Keeps}
use Rattle.ipc_history.specs.History.{History, run, with_event}
use Rattle.ipc_space.specs.Openings.{exit_of, exits}
use Rattle.ipc_space.proofs.Histories.{run_from-push}

-- where no call waits none is left
left-none : (stays : Waiting → Bool) (ws : List Waiting) → ws ≡ [] → filter stays ws ≡ []
left-none stays [] none = refl
left-none stays (w ∷ ws) none = cc

settled-empty : (s : State) → s.parked ≡ [] → (settled s).state.parked ≡ []
settled-empty s none = by s.parked refl none
  where
    by : (ws : List Waiting) → s.parked ≡ ws → ws ≡ [] → (settled s).state.parked ≡ []
    by [] is empty = rw is refl
    by (w ∷ ws) is empty = cc

-- an exit ends with the decision on it, and parks nothing
entered-empty : (s : State) (client : ℕ) (d : Decision State) → decide s client Exit ≡ d → s.parked ≡ [] → (entered s client Exit d).state.parked ≡ []
entered-empty s client (Refused rule) is none = settled-empty s none
entered-empty s client Waits is none = absurd (false≢true (only_parkable s client Exit (ap proceeds is)))
entered-empty s client (Granted answer new) is none =
    let same : new.parked ≡ s.parked = (subst (λ (d : Decision State). Keeps s d) is (Keeps-decide s client Exit)).0 in
    let stays : Waiting → Bool = λ w. is_none (cancelled new Exit w) in
    settled-empty (record new { parked = filter stays new.parked }) (left-none stays new.parked (same ∙ none))

exit-empty : (s : State) (client : ℕ) → s.parked ≡ [] → (step s (exit_of client)).state.parked ≡ []
exit-empty s client none =
    let t = begun s 0 in
    entered-empty t client (decide t client Exit) refl (left-none (λ w. is_none (expired (at_time s 0) w)) s.parked none)

-- one more
pub exits-more : (first count : ℕ) → exits first count ++ exit_of (first + count) ∷ [] ≡ exits first (count + 1)
exits-more first zero = let same : first + 0 ≡ first = omega arith in ap (λ (n : ℕ). exit_of n ∷ []) same
exits-more first (suc count) =
    let same : first + suc count ≡ (first + 1) + count = omega arith in
    let all : suc (count + 1) ≡ suc count + 1 = omega arith in
    ap (λ es. exit_of first ∷ es) (ap (λ (n : ℕ). exits (first + 1) count ++ exit_of n ∷ []) same ∙ exits-more (first + 1) count) ∙ ap (λ n. exits first n) all

pub run-more : (h : History) (client : ℕ) → (run h).parked ≡ [] → (run (with_event h (exit_of client))).parked ≡ []
run-more h client none =
    ap (λ (s : State). s.parked) (run_from-push (opening h.limits h.clients) h.events (exit_of client)) ∙ exit-empty (run h) client none

pub free-of : (s : State) (client : ℕ) → s.parked ≡ [] → is_waiting s client ≡ false
free-of s client none = by s.parked refl none
  where
    by : (ws : List Waiting) → s.parked ≡ ws → ws ≡ [] → is_waiting s client ≡ false
    by [] is empty = rw is refl
    by (w ∷ ws) is empty = cc
