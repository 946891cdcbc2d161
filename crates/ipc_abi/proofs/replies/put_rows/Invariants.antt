use Rattle.std.proofs.Common.{◌≡◌, ◌++◌, map, take, drop}
use Rattle.ipc_abi.specs.Objects.{object_of_row}
use Rattle.ipc_abi.proofs.replies.put_rows.Given as goal

abbrev pub invariant-loop-k : goal.invariant-loop-k
invariant-loop-k l = l.objects ≡ map object_of_row (take l.k l.rows) ++ drop l.k l.initial.objects
