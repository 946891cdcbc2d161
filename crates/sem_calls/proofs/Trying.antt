-- The trial of a semop: its plan has it as checks in order.
use Rattle.std.proofs.Common.{◌≡◌, ℕ, ℤ, Bool, true, false, cond, List, [], ◌∷◌, ◌++◌, ◌+◌, ◌+ℤ◌, ◌-ℤ◌, refl, sym, ap, ◌∙◌, Option, Some, None}
use Rattle.std.specs.Prelude.{◌&&◌, int_lt, not, option_map, unwrap_or, if◌then◌else◌}
use Rattle.ipc_call.specs.Flags.{has_flag, ipc_nowait}
use Rattle.ipc_call.specs.declared.calls.SemOper.{SemOper}
use Rattle.ipc_call.specs.declared.rules.Rule.TheVariants.{UndoRange, ValueRange, WouldWait}
use Rattle.ipc_creds.specs.Credentials.{Credentials}
use Rattle.ipc_objects.specs.declared.object.Object.{Object}
use Rattle.sem_set.specs.declared.set.Semaphore.{Semaphore}
use Rattle.sem_set.specs.declared.trials.Trial.{Trial}
use Rattle.sem_set.specs.declared.trials.Trial.TheVariants as trials
use Rattle.sem_set.specs.Met.{met_at}
use Rattle.sem_set.specs.Sets.{semvmx}
use Rattle.sem_set.specs.Trials.{are_in, is_semadj, must_wait, trial_from, trial_on, undoes}
use Rattle.sem_undo.specs.Entries.{adj_of}
use Rattle.ipc_model.specs.Decision.{Decision}
use Rattle.ipc_model.specs.Decision as decisions
use Rattle.ipc_model.specs.Plan.{Plan, decision, in_order}
use Rattle.ipc_model.specs.Semaphores.{set_at, stopping, stopping_from, stopping_on, trial_checks}
use Rattle.ipc_model.specs.State.{SemSet, Sems}
use Rattle.ipc_model.proofs.Trial.{same-trial, stops_in}

-- what is decided where a trial goes, and where it stops
abbrev pub by_trial : {X : Type 0} → Trial → Decision X → Decision X
by_trial trials.Go d = d
by_trial (trials.Wait place) d = decisions.Waits
by_trial (trials.Refuse rule) d = decisions.Refused rule

-- one operation, by its three tests
by_tests : {X : Type 0} (high low nowait far : Bool) (place : ℕ) (rest : Trial) (d e : Decision X) → e ≡ by_trial rest d
    → cond (not high) (cond (not low) (cond (not far) e (decisions.Refused UndoRange)) (cond nowait (decisions.Refused WouldWait) decisions.Waits)) (decisions.Refused ValueRange)
    ≡ by_trial (unwrap_or (if high then Some (trials.Refuse ValueRange) else (if low then Some (if nowait then trials.Refuse WouldWait else trials.Wait place) else (if far then Some (trials.Refuse UndoRange) else None))) rest) d
by_tests true low nowait far place rest d e is = refl
by_tests false true true far place rest d e is = refl
by_tests false true false far place rest d e is = refl
by_tests false false nowait true place rest d e is = refl
by_tests false false nowait false place rest d e is = is

pub tried : {X : Type 0} (c : Credentials) (place : ℕ) (sems : List Semaphore) (adj : ℕ → ℤ) (earlier ops : List SemOper) (rest : Plan X)
    → decision c (in_order (trial_checks sems adj earlier ops) rest) ≡ by_trial (trial_from place sems adj earlier ops) (decision c rest)
tried c place sems adj earlier [] rest = refl
tried c place sems adj earlier (o ∷ os) rest =
    let met = met_at sems adj earlier o.num in
    by_tests (int_lt semvmx (met.value +ℤ o.op)) (must_wait met.value o) (has_flag o.flags ipc_nowait) (undoes o && not (is_semadj (met.adj -ℤ o.op))) place (trial_from (place + 1) sems adj (earlier ++ o ∷ []) os) (decision c rest) _
    (tried c (place + 1) sems adj (earlier ++ o ∷ []) os rest)

-- the operation at which a semop waits is the one that the trial of its set tells
pub stops-as : (sems : Sems) (client id : ℕ) (ops : List SemOper) (set : Object SemSet) (t : Trial) → set_at sems id ≡ Some set → are_in set.contents.semaphores ops ≡ true
    → t ≡ trial_on set.contents.semaphores (adj_of sems.undo client id) ops → stops_in ops t ≡ stopping sems client id ops
stops-as sems client id ops set t there inside is =
    let adj = adj_of sems.undo client id in
    let all = set.contents.semaphores in
    ap (stops_in ops) is ∙ sym (same-trial all adj [] ops) ∙ sym (ap (λ b. if b then stopping_from all adj [] ops else None) inside)
    ∙ sym (ap (λ (o : Option (Object SemSet)). unwrap_or (option_map (λ s. stopping_on adj ops s.contents.semaphores) o) None) there)
