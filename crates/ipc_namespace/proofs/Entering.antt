-- One event: what its call and the waiting calls that it makes ready leave is what the step says.
use Rattle.std.proofs.Common.{◌≡◌, ◌∙◌, ℕ, List, Bool, true, false, ◌++◌, append_assoc, refl, sym, ap, subst, Option, None}
use Rattle.std.specs.Prelude.{◌==◌, is_none}
use Rattle.ipc_call.specs.declared.calls.Call.{Call}
use Rattle.ipc_call.specs.declared.replies.Completion.{Completion}
use Rattle.ipc_call.specs.declared.replies.Waiting.{Waiting}
use Rattle.ipc_model.specs.State.{State, is_waiting}
use Rattle.ipc_model.specs.Decision.{Outcome, outcome_of}
use Rattle.ipc_model.specs.Decide.{decide_call}
use Rattle.ipc_model.specs.Step.{after, enter, expire, expired, first_ready, moved_by, settled}
use Rattle.ipc_namespace.specs.Namespace.{is_grant, AreQuietBut}
use Rattle.ipc_namespace.specs.Touching.{CoversWaiting}
use Rattle.ipc_namespace.proofs.Owing.{covers-left}
use Rattle.ipc_namespace.proofs.Parked.{list_any-filter}
use Rattle.ipc_namespace.proofs.Quiet.{quiet-moved}
use Rattle.ipc_namespace.proofs.Settling.{entered-granted, entered-still, quiet-expire}

module _ (s u new : State) (client : ℕ) (call : Call) (own : Option Outcome) (between ended : List Completion) (is : own ≡ outcome_of (decide_call (expire s).state client call))
    (moved : u ≡ (moved_by (expire s).state client call).state) (cancels : between ≡ (expire s).ended ++ (moved_by (expire s).state client call).ended) where
  abbrev t : State
  t = (expire s).state

  abbrev first : List Completion
  first = (expire s).ended

  abbrev cancelled : List Completion
  cancelled = (moved_by t client call).ended

  pub after-granted : new ≡ (settled u).state → ended ≡ between ++ (settled u).ended → after first (enter t client call) ≡ record { state = new; own = own; ended = ended }
  after-granted left told =
      let rest = (settled u).ended in
      let all : ended ≡ first ++ (cancelled ++ rest) = told ∙ ap (λ es. es ++ rest) cancels ∙ append_assoc first cancelled rest in
      ap (after first) (entered-granted t u new client call own cancelled (cancelled ++ rest) moved refl (sym is) left refl)
      ∙ (λ i. record { state = new; own = own; ended = sym all i })

  pub after-still : first_ready s ≡ None → is_grant own ≡ false → new ≡ u → ended ≡ between → after first (enter t client call) ≡ record { state = new; own = own; ended = ended }
  after-still quiet still left told =
      let all : ended ≡ first ++ cancelled = told ∙ cancels in
      ap (after first) (entered-still t new client call own cancelled (quiet-expire s quiet) still is (left ∙ moved) refl)
      ∙ (λ i. record { state = new; own = own; ended = sym all i })

  -- before those end that can proceed no other can
  pub quiet-entered : (touched : Waiting → Bool) → CoversWaiting s client call touched → first_ready s ≡ None → is_waiting s client ≡ false → is_grant own ≡ true → AreQuietBut touched u
  quiet-entered touched covers quiet free granted =
      let away : is_waiting t client ≡ false = list_any-filter (λ w. w.client == client) (λ w. is_none (expired s w)) s.parked free in
      subst (λ (v : State). AreQuietBut touched v) (sym moved)
      (quiet-moved t client call touched (covers-left s client call touched (λ w. is_none (expired s w)) quiet covers) (quiet-expire s quiet) away (ap is_grant (sym is) ∙ granted))
