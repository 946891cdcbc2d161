use Rattle.std.proofs.Common.{◌≡◌, ◌<◌, ℕ, get_or, length}
use Rattle.ipc_history.specs.History.{run}
use Rattle.ipc_model.specs.State.{process_at}
use Rattle.sem_set.specs.Trials.{adj_in}
use Rattle.sem_set.proofs.Running.{no_oper}
use Rattle.sem_undo.specs.Entries.{adj_of}
use Rattle.call_reasons.proofs.trials.fill.Given as goal

-- the semaphores of the operations so far are set
abbrev pub invariant-loop-oper : goal.invariant-loop-oper
invariant-loop-oper l = record {
  len : length l.row ≡ length l.fn.row;
  adjs : (k : ℕ) → k < l.oper-index → adj_in l.row (get_or l.ops k no_oper).num ≡ adj_of (run l.space).sems.undo (process_at (run l.space) l.client) l.id (get_or l.ops k no_oper).num;
}
