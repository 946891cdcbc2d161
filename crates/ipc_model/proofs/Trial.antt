-- The operation at which a semop stops, by its checks, is the one that the trial of a set tells.
use Rattle.std.proofs.Common.{◌≡◌, ℕ, ℤ, Bool, true, false, cond, List, [], ◌∷◌, ◌++◌, ◌+◌, ◌+ℤ◌, ◌-ℤ◌, length, refl, sym, ◌∙◌, Option, Some, None}
use Rattle.std.specs.Prelude.{◌&&◌, int_lt, not, slice_get, unwrap_or, if◌then◌else◌}
use Rattle.std.proofs.lemmas.List.{append_assoc, length-append}
use Rattle.ipc_call.specs.Flags.{has_flag, ipc_nowait}
use Rattle.ipc_call.specs.declared.calls.SemOper.{SemOper}
use Rattle.ipc_call.specs.declared.replies.Answer.TheVariants.{Done}
use Rattle.ipc_call.specs.declared.rules.Rule.TheVariants.{UndoRange, ValueRange, WouldWait}
use Rattle.sem_set.specs.declared.set.Semaphore.{Semaphore}
use Rattle.sem_set.specs.declared.trials.Trial.{Trial}
use Rattle.sem_set.specs.declared.trials.Trial.TheVariants as trials
use Rattle.sem_set.specs.Met.{met_at}
use Rattle.sem_set.specs.Sets.{semvmx}
use Rattle.sem_set.specs.Trials.{is_semadj, must_wait, trial_from, undoes}
use Rattle.ipc_model.specs.Decision.{without_answer}
use Rattle.ipc_model.specs.Decision as decisions
use Rattle.ipc_model.specs.Semaphores.{waits_at_oper, stopping_from}

-- what a trial tells: the operation at which it waits
abbrev pub stops_in : List SemOper → Trial → Option SemOper
stops_in ops trials.Go = None
stops_in ops (trials.Wait place) = slice_get ops place
stops_in ops (trials.Refuse rule) = None

at-place : (xs : List SemOper) (o : SemOper) (ys : List SemOper) → slice_get (xs ++ o ∷ ys) (length xs) ≡ Some o
at-place [] o ys = refl
at-place (x ∷ xs) o ys = at-place xs o ys

by-tests : (high low nowait far : Bool) (o : SemOper) (all : List SemOper) (place : ℕ) (rest : Trial) (later : Option SemOper) → slice_get all place ≡ Some o → later ≡ stops_in all rest
    → waits_at_oper o (without_answer (cond (not high) (cond (not low) (cond (not far) (decisions.Granted Done (tt {0})) (decisions.Refused UndoRange)) (cond nowait (decisions.Refused WouldWait) decisions.Waits)) (decisions.Refused ValueRange))) later
    ≡ stops_in all (unwrap_or (if high then Some (trials.Refuse ValueRange) else (if low then Some (if nowait then trials.Refuse WouldWait else trials.Wait place) else (if far then Some (trials.Refuse UndoRange) else None))) rest)
by-tests true low nowait far o all place rest later here is = refl
by-tests false true true far o all place rest later here is = refl
by-tests false true false far o all place rest later here is = sym here
by-tests false false nowait true o all place rest later here is = refl
by-tests false false nowait false o all place rest later here is = is

-- from any of the operations on
pub same-trial : (sems : List Semaphore) (adj : ℕ → ℤ) (earlier ops : List SemOper) → stopping_from sems adj earlier ops ≡ stops_in (earlier ++ ops) (trial_from (length earlier) sems adj earlier ops)
same-trial sems adj earlier [] = refl
same-trial sems adj earlier (o ∷ os) =
    let met = met_at sems adj earlier o.num in
    by-tests (int_lt semvmx (met.value +ℤ o.op)) (must_wait met.value o) (has_flag o.flags ipc_nowait) (undoes o && not (is_semadj (met.adj -ℤ o.op))) o (earlier ++ o ∷ os) (length earlier)
    (trial_from (length earlier + 1) sems adj (earlier ++ o ∷ []) os) (stopping_from sems adj (earlier ++ o ∷ []) os) (at-place earlier o os)
    (same-trial sems adj (earlier ++ o ∷ []) os ∙ (λ i. stops_in (append_assoc earlier (o ∷ []) os i) (trial_from (length-append earlier (o ∷ []) i) sems adj (earlier ++ o ∷ []) os)))
