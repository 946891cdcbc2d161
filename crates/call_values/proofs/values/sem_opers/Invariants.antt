use Rattle.std.proofs.Common.{◌≡◌, map, take}
use Rattle.call_values.specs.Operations.{sem_oper}
use Rattle.call_values.proofs.values.sem_opers.Given as goal

abbrev pub invariant-loop-op : goal.invariant-loop-op
invariant-loop-op l = l.opers.items ≡ map sem_oper (take l.op-index l.ops)
