use Rattle.std.proofs.Common.{take}
use Rattle.ipc_parked.specs.Deadlines.{IsFirstReached}
use Rattle.ipc_parked.proofs.deadlines.first_in.Given as goal

-- so it is of the rows so far
abbrev pub invariant-loop-row : goal.invariant-loop-row
invariant-loop-row l = IsFirstReached l.clock (take l.row-index l.rows) l.first
