use Rattle.std.proofs.Common.{◌≡◌, ◌≤◌, length, map, take}
use Rattle.std.specs.Prelude.{vec_capacity, vec_len}
use Rattle.ipc_abi.specs.Requests.{sem_oper}
use Rattle.ipc_abi.proofs.requests.sem_opers.Given as goal

abbrev pub invariant-loop-op : goal.invariant-loop-op
invariant-loop-op l = (l.opers.items ≡ map sem_oper (take l.op-index l.ops)) × (vec_len l.opers ≡ l.op-index)
    × (length l.ops ≤ vec_capacity l.opers)
