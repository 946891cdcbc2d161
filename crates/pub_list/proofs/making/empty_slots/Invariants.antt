use Rattle.std.proofs.Common.{◌≡◌, replicate}
use Rattle.pub_rule.specs.declared.served.Slot.TheVariants as slots
use Rattle.pub_list.proofs.making.empty_slots.Given as goal

abbrev pub invariant-loop : goal.invariant-loop
invariant-loop g l = l.slots.items ≡ replicate l.counter slots.Empty
