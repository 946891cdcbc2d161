-- the rows of the processes so far
use Rattle.std.proofs.Common.{◌≡◌, take}
use Rattle.std.specs.Prelude.{map}
use Rattle.ipc_live.specs.Told.{row_of}
use Rattle.ipc_live.proofs.table.rows_at.Given as goal

abbrev pub invariant-loop-process : goal.invariant-loop-process
invariant-loop-process l = l.rows.items ≡ map (row_of l.object) (take l.process-index l.processes)
