use Rattle.std.proofs.Common.{◌≡◌, map, pos, take}
use Rattle.ipc_abi.proofs.requests.values_of.Given as goal

abbrev pub invariant-loop-value : goal.invariant-loop-value
invariant-loop-value l = l.widened.items ≡ map pos (take l.value-index l.values)
