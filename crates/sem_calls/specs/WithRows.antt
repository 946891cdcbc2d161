-- The sets with the rows of semadj that there is memory for: for which client at which set, and how long.
use Rattle.std.specs.Prelude.{ℕ, ◌≡◌, ◌<◌, true, List}
use Rattle.std.specs.List.{AllByRecursion}
use Rattle.ipc_call.specs.declared.calls.SemOper.{SemOper}
use Rattle.ipc_ids.specs.Table.{Table}
use Rattle.ipc_objects.specs.declared.object.Object.{Object}
use Rattle.sem_set.specs.Trials.{undoes}
use Rattle.sem_undo.specs.Entries.{Undone, row_len}
use Rattle.ipc_model.specs.State.{SemSet, Sems}

pub record SetsWithRows : Type 0 where
  pub sets : Table (Object SemSet)
  pub undone : Undone

-- the sets and the entries, as the state of a namespace has them
abbrev pub sems_of : SetsWithRows → Sems
sems_of held = record { sets = held.sets; undo = held.undone.entries }

-- how long the row of a client at a set is, 0 where there is none
abbrev pub row_at : SetsWithRows → ℕ → ℕ → ℕ
row_at held client set = row_len held.undone client set

-- the client has a row at the set for each operation that exit undoes
abbrev pub HasRow : SetsWithRows → ℕ → ℕ → List SemOper → Type 0
HasRow held client set ops = AllByRecursion (λ o. undoes o ≡ true → o.num < row_at held client set) ops
