-- Why an object got no identifier.
use Rattle.std.specs.Prelude.{Bool, true, false}
use Rattle.ipc_ids.specs.declared.slots.InsertFault.{InsertFault}
use Rattle.ipc_ids.specs.declared.slots.InsertFault.TheVariants.{NoSlot, Memory}

-- the object that comes back
abbrev pub returned : {X : Type 0} → InsertFault X → X
returned (NoSlot x) = x
returned (Memory x) = x

-- for want of a slot, and not of memory
abbrev pub is_of_slots : {X : Type 0} → InsertFault X → Bool
is_of_slots (NoSlot x) = true
is_of_slots (Memory x) = false
