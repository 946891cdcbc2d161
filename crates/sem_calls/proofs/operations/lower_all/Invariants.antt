use Rattle.std.proofs.Common.{◌≡◌, ◌<◌, drop, true}
use Rattle.std.specs.List.{AllByRecursion}
use Rattle.ipc_model.specs.Semaphores.{lowered}
use Rattle.sem_set.specs.Trials.{undoes}
use Rattle.sem_undo.specs.Entries.{row_len}
use Rattle.sem_calls.specs.Operations.{StayInRange}
use Rattle.sem_calls.proofs.operations.lower_all.Given as goal

-- the operations from here on lower what is left to lower
abbrev pub invariant-loop-oper : goal.invariant-loop-oper
invariant-loop-oper l = record {
  rows : l.undo.rows ≡ l.fn.undo.rows;
  left : lowered l.undo.entries l.process l.id (drop l.oper-index l.ops) ≡ lowered l.fn.undo.entries l.process l.id l.ops;
  range : StayInRange l.undo.entries l.process l.id (drop l.oper-index l.ops);
  row : AllByRecursion (λ o. undoes o ≡ true → o.num < row_len l.fn.undo l.process l.id) (drop l.oper-index l.ops);
}
