use Rattle.std.proofs.Common.{◌≡◌, ℕ, ◌<◌, false, get_or}
use Rattle.std.specs.Slots.{slots_filled, slots_len, slots_items}
use Rattle.std.specs.Mem.Slots.Ownership.{Filled}
use Rattle.pub_list.proofs.closing.Closing.end.Given as goal

abbrev pub invariant-loop-client : goal.invariant-loop-client
invariant-loop-client g l = Filled (slots_filled l.closed.slots) l.client (slots_len l.closed.slots) × ((k : ℕ) → k < l.client → get_or (slots_filled l.closed.slots) k false ≡ false) × (slots_items l.closed.slots ≡ slots_items l.initial.closed.slots) × (slots_len l.closed.slots ≡ slots_len l.initial.closed.slots)
