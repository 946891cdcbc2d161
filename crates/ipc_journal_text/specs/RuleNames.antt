-- Rules by their names.
use Rattle.std.specs.Prelude.{ℕ, Bool, List, [], ◌∷◌, bytes_eq, Option}
use Rattle.std.specs.List.{find}
use Rattle.ipc_call.specs.Rules.{name_of_rule}
use Rattle.ipc_call.specs.declared.rules.Rule.{Rule}
use Rattle.ipc_call.specs.declared.rules.Rule.TheVariants.{NotOwner, NeedsResource, NotSameUser, NotOwnUser, NotOwnGroup, NeedsSetgid, TooManyGroups, NoKey, Ended, ClientInUse}
use Rattle.ipc_call.specs.declared.rules.Rule.TheVariants.{PidInUse, BadPid, NoClient, NoProcess}
use Rattle.ipc_call.specs.declared.rules.Rule.TheVariants.{Interrupted, MessageTooLong, TooManyOperations, QueueFull, WouldWait, TimedOut, OwnerBits, GroupBits, OtherBits}
use Rattle.ipc_call.specs.declared.rules.Rule.TheVariants.{ReadOnly, KeyExists, BadId, BadType, TextTooLong, BadSize, BadSem, BadArgument, NoOperations, SemOutOfSet}
use Rattle.ipc_call.specs.declared.rules.Rule.TheVariants.{NotAttached, OutOfSegment, TooManyAttached, NoSlot, ValueRange, UndoRange, NoMessage, Removed}

unfoldable pub all_rules : List Rule
all_rules =
    NotOwner ∷ NeedsResource ∷ NotSameUser ∷ NotOwnUser ∷ NotOwnGroup ∷ NeedsSetgid ∷ TooManyGroups ∷ NoKey ∷ Ended
    ∷ ClientInUse ∷ PidInUse ∷ BadPid ∷ NoClient ∷ NoProcess
    ∷ Interrupted ∷ MessageTooLong ∷ TooManyOperations ∷ QueueFull ∷ WouldWait ∷ TimedOut ∷ OwnerBits ∷ GroupBits ∷ OtherBits
    ∷ ReadOnly ∷ KeyExists ∷ BadId ∷ BadType ∷ TextTooLong ∷ BadSize ∷ BadSem ∷ BadArgument ∷ NoOperations ∷ SemOutOfSet
    ∷ NotAttached ∷ OutOfSegment ∷ TooManyAttached ∷ NoSlot ∷ ValueRange ∷ UndoRange ∷ NoMessage ∷ Removed ∷ []

abbrev pub has_name : List ℕ → Rule → Bool
has_name word rule = bytes_eq (name_of_rule rule) word

-- the first rule of this name
unfoldable pub rule_named : List ℕ → Option Rule
rule_named word = find (has_name word) all_rules
