use Rattle.std.proofs.Common.{◌≡◌, ℕ}
use Rattle.std.specs.FinMap as finite
use Rattle.ipc_model.specs.Semaphores.{after_exit}
use Rattle.sem_calls.specs.WithRows.{row_at, sems_of}
use Rattle.sem_calls.proofs.sets.Sets.exit.Given as goal

-- the rest of the exit leads where the whole does, and the rows of other clients stay
abbrev pub invariant-loop-id : goal.invariant-loop-id
invariant-loop-id l = record {
  rest : after_exit (sems_of l.self) l.who ≡ after_exit (sems_of l.fn.self) l.who;
  rows : (client set : ℕ) → (client ≡ l.who.process → ⊥) → row_at l.self client set ≡ row_at l.fn.self client set;
}

-- the rows that are left
abbrev pub decreases-loop-id : goal.decreases-loop-id
decreases-loop-id l = finite.len l.self.undone.rows
