-- The operation at which a semop is refused, by the trial of its set.
use Rattle.std.specs.Prelude.{◌≡◌, ℕ, ℤ, pos, ⊤, Bool, true, false, ◌&&◌, List, [], ◌∷◌, ◌++◌, length, map, nat_lt, Option, Some, None, option_and_then, option_map, if◌then◌else◌}
use Rattle.std.specs.List.{list_all}
use Rattle.ipc_call.specs.declared.calls.Call.{Call}
use Rattle.ipc_call.specs.declared.calls.Call.TheVariants.{SemOp, SemTimedOp}
use Rattle.ipc_call.specs.declared.calls.SemOper.{SemOper}
use Rattle.ipc_call.specs.declared.rules.Rule.{Rule}
use Rattle.ipc_call.specs.declared.rules.Rule.TheVariants.{UndoRange, ValueRange, WouldWait}
use Rattle.sem_set.specs.declared.set.Semaphore.{Semaphore}
use Rattle.sem_set.specs.declared.trials.Met.{Met}
use Rattle.sem_set.specs.declared.trials.Trial.{Trial}
use Rattle.sem_set.specs.declared.trials.Trial.TheVariants.{Go, Wait, Refuse}
use Rattle.sem_set.specs.Met.{met_at}
use Rattle.sem_set.specs.Sets.{is_value}
use Rattle.sem_set.specs.Trials.{stopped_at}
use Rattle.sem_undo.specs.Entries.{adj_of}
use Rattle.ipc_model.specs.Decide.{decide_alive}
use Rattle.ipc_model.specs.Decision as decisions
use Rattle.ipc_objects.specs.declared.object.Object.{Object}
use Rattle.ipc_model.specs.Semaphores.{set_at}
use Rattle.ipc_model.specs.State.{SemSet, Sems, State, process_at}
use Rattle.call_reasons.specs.declared.trials.Stopped.{Stopped}

-- an operation that meets this, where it is refused; else what is told of the later ones, unless the call waits at it
abbrev pub by_stop : SemOper → Met → Option Trial → Option Stopped → Option Stopped
by_stop o met None later = later
by_stop o met (Some Go) later = None
by_stop o met (Some (Wait place)) later = None
by_stop o met (Some (Refuse rule)) later = Some (record { oper = o; value = met.value; adj = met.adj; rule = rule })

-- the first operation that is stopped, of those after the earlier ones
abbrev pub refused_from : List Semaphore → (ℕ → ℤ) → List SemOper → List SemOper → Option Stopped
refused_from sems adj earlier [] = None
refused_from sems adj earlier (o ∷ os) =
    by_stop o (met_at sems adj earlier o.num) (stopped_at 0 sems adj earlier o)
    (refused_from sems adj (earlier ++ o ∷ []) os)

-- the rule by which a trial is refused
abbrev pub refusal_of : Trial → Option Rule
refusal_of Go = None
refusal_of (Wait place) = None
refusal_of (Refuse rule) = Some rule

-- the operations name semaphores of a set with these values, and each is the value of a semaphore
abbrev pub can_try_in : List ℤ → List SemOper → Bool
can_try_in values ops = list_all (λ o. nat_lt o.num (length values)) ops && list_all is_value values

abbrev pub integers_of : List Semaphore → List ℤ
integers_of sems = map (λ s. pos s.value) sems

abbrev pub refused_by : (ℕ → ℤ) → List SemOper → List Semaphore → Option Stopped
refused_by adj ops sems = if can_try_in (integers_of sems) ops then refused_from sems adj [] ops else None

-- the operation at which the operations of a process on the set of an identifier are refused
abbrev pub refused_at : Sems → ℕ → ℕ → List SemOper → Option Stopped
refused_at sems process id ops =
    option_and_then (λ set. refused_by (adj_of sems.undo process id) ops set.contents.semaphores) (set_at sems id)

abbrev pub refused_in : State → ℕ → Call → Option Stopped
refused_in s client (SemOp id ops) = refused_at s.sems (process_at s client) id ops
refused_in s client (SemTimedOp id ops timeout) = refused_at s.sems (process_at s client) id ops
refused_in s client call = None

-- a rule by which a trial refuses
abbrev pub is_of_trial : Rule → Bool
is_of_trial ValueRange = true
is_of_trial WouldWait = true
is_of_trial UndoRange = true
is_of_trial rule = false

-- where such a rule refuses the call, on a set whose values are those of semaphores, it is the rule that is told
abbrev pub OfTrial : State → ℕ → Call → ℕ → Option Stopped → Type 0
OfTrial s client call id stopped =
    (set : Object SemSet) (rule : Rule) → set_at s.sems id ≡ Some set
    → list_all is_value (integers_of set.contents.semaphores) ≡ true
    → decide_alive s client call ≡ decisions.Refused rule → is_of_trial rule ≡ true
    → option_map (λ t. t.rule) stopped ≡ Some rule

abbrev pub IsOfDecision : State → ℕ → Call → Option Stopped → Type 0
IsOfDecision s client (SemOp id ops) stopped = OfTrial s client (SemOp id ops) id stopped
IsOfDecision s client (SemTimedOp id ops timeout) stopped = OfTrial s client (SemTimedOp id ops timeout) id stopped
IsOfDecision s client call stopped = Unit {0}
