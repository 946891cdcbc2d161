use Rattle.std.proofs.Common.{◌≡◌, ◌++◌, length}
use Rattle.ipc_wire.specs.Layout.{values_in}
use Rattle.ipc_wire.proofs.reading.values.Given as goal

abbrev pub invariant-loop-rest : goal.invariant-loop-rest
invariant-loop-rest l = l.values.items ++ values_in l.rest ≡ values_in l.payload

abbrev pub decreases-loop-rest : goal.decreases-loop-rest
decreases-loop-rest l = length l.rest
