-- What the operations of a trial meet, as the trial keeps it.
use Rattle.std.specs.Prelude.{ℕ, ℤ, pos, ◌+ℤ◌, ◌-ℤ◌, List, if◌then◌else◌}
use Rattle.ipc_call.specs.declared.calls.SemOper.{SemOper}
use Rattle.sem_set.specs.declared.set.Semaphore.{Semaphore}
use Rattle.sem_set.specs.declared.trials.Met.{Met}
use Rattle.sem_set.specs.Sets.{value_of}
use Rattle.sem_set.specs.Trials.{is_on, sum_of, undoes, undoes_on}

-- what the next operation on the semaphore meets after one that can be done
abbrev pub met_after : Met → SemOper → Met
met_after m o = record { value = m.value +ℤ o.op; adj = if undoes o then m.adj -ℤ o.op else m.adj }

-- what an operation on the semaphore of a number meets after the earlier ones
abbrev pub met_at : List Semaphore → (ℕ → ℤ) → List SemOper → ℕ → Met
met_at sems adj earlier num = record {
  value = pos (value_of sems num) +ℤ sum_of (is_on num) earlier;
  adj = adj num -ℤ sum_of (undoes_on num) earlier;
}
