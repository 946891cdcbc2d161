-- semop in two steps: what is decided on it, and then the operations, for which a row was reserved.
use Rattle.std.specs.Prelude.{◌≡◌, ⊤, ℕ, ◌-ℤ◌, true, List, [], ◌∷◌, Option, Some, None, Result, Ok, Err, if◌then◌else◌}
use Rattle.ipc_call.specs.declared.calls.SemOper.{SemOper}
use Rattle.ipc_call.specs.declared.limits.Limits.{Limits}
use Rattle.ipc_call.specs.declared.rules.Rule.{Rule}
use Rattle.sem_set.specs.declared.trials.Trial.{Trial}
use Rattle.sem_set.specs.declared.trials.Trial.TheVariants.{Go, Wait, Refuse}
use Rattle.sem_set.specs.Trials.{is_semadj, undoes}
use Rattle.sem_undo.specs.Entries.{Entries, adj_of, with_adj}
use Rattle.ipc_model.specs.Decision.{Decision, left_by, without_answer}
use Rattle.ipc_model.specs.Plan.{decision}
use Rattle.ipc_model.specs.Semaphores.{operate}
use Rattle.ipc_model.specs.State.{Caller, Sems}

-- the decision on semop
abbrev pub operating : Limits → Sems → Caller → ℕ → List SemOper → Decision Sems
operating limits sems who id ops = decision who.creds (operate limits sems who id ops)

-- semop is granted under some limits
abbrev pub MayOperate : Sems → Caller → ℕ → List SemOper → Type 0
MayOperate sems who id ops = (limits : Limits) × (without_answer (operating limits sems who id ops) ≡ Some (Ok tt))

-- the operations are done: where semop was granted, the sets are what the grant leaves
abbrev pub IsOperated : Sems → Caller → ℕ → List SemOper → Sems → Type 0
IsOperated sems who id ops new = (limits : Limits) → without_answer (operating limits sems who id ops) ≡ Some (Ok tt)
    → new ≡ left_by sems (operating limits sems who id ops)

-- how the call ends by its trial, its answer left out
abbrev pub end_by : Trial → Option (Result ⊤ Rule)
end_by Go = Some (Ok tt)
end_by (Wait place) = None
end_by (Refuse rule) = Some (Err rule)

-- an operation lowers the semadj of its semaphore, where exit undoes it
abbrev pub lowered_by : Entries → ℕ → ℕ → SemOper → Entries
lowered_by undo client id o =
    if undoes o
    then with_adj undo (record { client = client; set = id; num = o.num }) (adj_of undo client id o.num -ℤ o.op)
    else undo

-- each semadj that the operations lower stays in its range
abbrev pub StayInRange : Entries → ℕ → ℕ → List SemOper → Type 0
StayInRange undo client id [] = ⊤
StayInRange undo client id (o ∷ os) =
    (undoes o ≡ true → is_semadj (adj_of undo client id o.num -ℤ o.op) ≡ true)
    × StayInRange (lowered_by undo client id o) client id os
