use Rattle.std.proofs.Common.{◌≡◌, ◌+◌, ◌-◌, ℕ, vec_len}
use Rattle.ipc_parked.specs.Arrivals.{slot_at}
use Rattle.ipc_parked.proofs.arrivals.grow.Given as goal

-- each client has what it had
abbrev pub invariant-loop-slots : goal.invariant-loop-slots
invariant-loop-slots l = (other : ℕ) → slot_at l.slots.items other ≡ slot_at l.fn.slots.items other

abbrev pub decreases-loop-slots : goal.decreases-loop-slots
decreases-loop-slots l = l.client + 1 - vec_len l.slots
