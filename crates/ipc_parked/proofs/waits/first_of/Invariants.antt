use Rattle.std.proofs.Common.{take}
use Rattle.ipc_parked.specs.Waits.{NoneIs}
use Rattle.ipc_parked.proofs.waits.first_of.Given as goal

-- none of the rows so far is the client's on the object
abbrev pub invariant-loop-at : goal.invariant-loop-at
invariant-loop-at l = NoneIs l.id l.client (take l.at l.rows)
