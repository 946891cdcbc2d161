use Rattle.std.proofs.Common.{◌≡◌, ◌+◌, ◌*◌, ◌≤◌, ◌++◌, take}
use Rattle.std.specs.Prelude.{vec_capacity, vec_len}
use Rattle.std.specs.Int.{w64}
use Rattle.ipc_wire.specs.Replies.{numbers_bytes}
use Rattle.ipc_wire.proofs.writing.put_u64s.Given as goal

abbrev pub invariant-loop-number : goal.invariant-loop-number
invariant-loop-number l =
    (l.out.items ≡ l.initial.out.items ++ numbers_bytes w64 (take l.number-index l.numbers))
    × (vec_len l.out ≡ vec_len l.initial.out + 8 * l.number-index)
    × (vec_capacity l.initial.out ≤ vec_capacity l.out)
