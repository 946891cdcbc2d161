use Rattle.std.proofs.Common.{◌≡◌, ◌++◌, length}
use Rattle.ipc_wire.specs.Layout.{opers_in}
use Rattle.ipc_wire.proofs.reading.opers.Given as goal

abbrev pub invariant-loop-rest : goal.invariant-loop-rest
invariant-loop-rest l = l.opers.items ++ opers_in l.rest ≡ opers_in l.payload

abbrev pub decreases-loop-rest : goal.decreases-loop-rest
decreases-loop-rest l = length l.rest
