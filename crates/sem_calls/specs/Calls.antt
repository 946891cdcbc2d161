-- The decisions on the calls on a set but semop.
use Rattle.std.specs.Prelude.{ℕ, ℤ, List, Option}
use Rattle.ipc_call.specs.declared.limits.Limits.{Limits}
use Rattle.ipc_ids.specs.Table.{Table}
use Rattle.ipc_objects.specs.declared.object.Object.{Object}
use Rattle.sem_set.specs.declared.set.Semaphore.{Semaphore}
use Rattle.ipc_model.specs.Decision.{Decision}
use Rattle.ipc_model.specs.Gets.{Get, get_found, get_set, getting_set}
use Rattle.ipc_model.specs.Plan.{decision}
use Rattle.ipc_model.specs.Semaphores.{get_all, get_pid, get_value, look, set_all, set_value}
use Rattle.ipc_model.specs.State.{Caller, SemSet, Sems}

-- semget, and with what is found under the key
abbrev pub getting : Limits → Sems → Caller → Get → ℕ → Decision Sems
getting limits sems who asked nsems = decision who.creds (get_set limits sems who asked nsems)

abbrev pub getting_found : Table (Object SemSet) → Caller → Get → ℕ → Option (ℕ × Object SemSet)
    → Decision (Table (Object SemSet))
getting_found t who asked nsems there = decision who.creds (get_found t who asked (getting_set nsems) there)

-- GETVAL, GETPID, what both ask, and GETALL
abbrev pub telling_value : Sems → Caller → ℕ → ℕ → Decision Sems
telling_value sems who id num = decision who.creds (get_value sems id num)

abbrev pub telling_pid : Sems → Caller → ℕ → ℕ → Decision Sems
telling_pid sems who id num = decision who.creds (get_pid sems id num)

abbrev pub looking : Sems → Caller → ℕ → ℕ → (List Semaphore → ℕ) → Decision Sems
looking sems who id num tell = decision who.creds (look sems id num tell)

abbrev pub telling_all : Sems → Caller → ℕ → Decision Sems
telling_all sems who id = decision who.creds (get_all sems id)

-- SETVAL and SETALL
abbrev pub setting : Sems → Caller → ℕ → ℕ → ℤ → Decision Sems
setting sems who id num value = decision who.creds (set_value sems who id num value)

abbrev pub setting_all : Sems → Caller → ℕ → List ℤ → Decision Sems
setting_all sems who id values = decision who.creds (set_all sems who id values)
