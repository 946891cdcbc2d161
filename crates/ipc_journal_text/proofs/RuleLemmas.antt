-- A rule is found by its name.
use Rattle.std.proofs.Common.{◌≡◌, ◌<◌, ◌^◌, arith, refl}
use Rattle.std.specs.Prelude.{Some}
use Rattle.ipc_call.specs.Rules.{name_of_rule, row_of}
use Rattle.ipc_call.specs.declared.rules.Rule.{Rule}
use Rattle.ipc_call.specs.declared.rules.Rule.TheVariants.{NotOwner, NeedsResource, NotSameUser, NotOwnUser, NotOwnGroup, NeedsSetgid, TooManyGroups, NoKey, Ended, ClientInUse}
use Rattle.ipc_call.specs.declared.rules.Rule.TheVariants.{PidInUse, BadPid, NoClient, NoProcess}
use Rattle.ipc_call.specs.declared.rules.Rule.TheVariants.{Interrupted, MessageTooLong, TooManyOperations, QueueFull, WouldWait, TimedOut, OwnerBits, GroupBits, OtherBits}
use Rattle.ipc_call.specs.declared.rules.Rule.TheVariants.{ReadOnly, KeyExists, BadId, BadType, TextTooLong, BadSize, BadSem, BadArgument, NoOperations, SemOutOfSet}
use Rattle.ipc_call.specs.declared.rules.Rule.TheVariants.{NotAttached, OutOfSegment, TooManyAttached, NoSlot, ValueRange, UndoRange, NoMessage, Removed}
use Rattle.ipc_call.specs.Errors as errors
use Rattle.ipc_call.specs.declared.error.Errno.{Errno}
use Rattle.ipc_call.specs.declared.error.Errno.TheVariants.{EPERM, ENOENT, ESRCH, EINTR, E2BIG, EAGAIN, ENOMEM}
use Rattle.ipc_call.specs.declared.error.Errno.TheVariants.{EACCES, EEXIST, EINVAL, EMFILE, EFBIG, ENOSPC, ERANGE, ENOMSG, EIDRM}
use Rattle.ipc_journal_text.proofs.WordLemmas.{IsWord}
use Rattle.ipc_journal_text.specs.RuleNames.{all_rules, rule_named}

pub named-by : (rule : Rule) → rule_named (name_of_rule rule) ≡ Some rule
unfolding rule_named all_rules row_of
named-by NotOwner = refl
named-by NeedsResource = refl
named-by NotSameUser = refl
named-by NotOwnUser = refl
named-by NotOwnGroup = refl
named-by NeedsSetgid = refl
named-by TooManyGroups = refl
named-by NoKey = refl
named-by Ended = refl
named-by ClientInUse = refl
named-by PidInUse = refl
named-by BadPid = refl
named-by NoClient = refl
named-by NoProcess = refl
named-by Interrupted = refl
named-by MessageTooLong = refl
named-by TooManyOperations = refl
named-by QueueFull = refl
named-by WouldWait = refl
named-by TimedOut = refl
named-by OwnerBits = refl
named-by GroupBits = refl
named-by OtherBits = refl
named-by ReadOnly = refl
named-by KeyExists = refl
named-by BadId = refl
named-by BadType = refl
named-by TextTooLong = refl
named-by BadSize = refl
named-by BadSem = refl
named-by BadArgument = refl
named-by NoOperations = refl
named-by SemOutOfSet = refl
named-by NotAttached = refl
named-by OutOfSegment = refl
named-by TooManyAttached = refl
named-by NoSlot = refl
named-by ValueRange = refl
named-by UndoRange = refl
named-by NoMessage = refl
named-by Removed = refl

-- names are words, and a number is a small one
pub IsWord-rule : (rule : Rule) → IsWord (name_of_rule rule)
unfolding row_of
IsWord-rule NotOwner = record { some = omega arith; solid = refl }
IsWord-rule NeedsResource = record { some = omega arith; solid = refl }
IsWord-rule NotSameUser = record { some = omega arith; solid = refl }
IsWord-rule NotOwnUser = record { some = omega arith; solid = refl }
IsWord-rule NotOwnGroup = record { some = omega arith; solid = refl }
IsWord-rule NeedsSetgid = record { some = omega arith; solid = refl }
IsWord-rule TooManyGroups = record { some = omega arith; solid = refl }
IsWord-rule NoKey = record { some = omega arith; solid = refl }
IsWord-rule Ended = record { some = omega arith; solid = refl }
IsWord-rule ClientInUse = record { some = omega arith; solid = refl }
IsWord-rule PidInUse = record { some = omega arith; solid = refl }
IsWord-rule BadPid = record { some = omega arith; solid = refl }
IsWord-rule NoClient = record { some = omega arith; solid = refl }
IsWord-rule NoProcess = record { some = omega arith; solid = refl }
IsWord-rule Interrupted = record { some = omega arith; solid = refl }
IsWord-rule MessageTooLong = record { some = omega arith; solid = refl }
IsWord-rule TooManyOperations = record { some = omega arith; solid = refl }
IsWord-rule QueueFull = record { some = omega arith; solid = refl }
IsWord-rule WouldWait = record { some = omega arith; solid = refl }
IsWord-rule TimedOut = record { some = omega arith; solid = refl }
IsWord-rule OwnerBits = record { some = omega arith; solid = refl }
IsWord-rule GroupBits = record { some = omega arith; solid = refl }
IsWord-rule OtherBits = record { some = omega arith; solid = refl }
IsWord-rule ReadOnly = record { some = omega arith; solid = refl }
IsWord-rule KeyExists = record { some = omega arith; solid = refl }
IsWord-rule BadId = record { some = omega arith; solid = refl }
IsWord-rule BadType = record { some = omega arith; solid = refl }
IsWord-rule TextTooLong = record { some = omega arith; solid = refl }
IsWord-rule BadSize = record { some = omega arith; solid = refl }
IsWord-rule BadSem = record { some = omega arith; solid = refl }
IsWord-rule BadArgument = record { some = omega arith; solid = refl }
IsWord-rule NoOperations = record { some = omega arith; solid = refl }
IsWord-rule SemOutOfSet = record { some = omega arith; solid = refl }
IsWord-rule NotAttached = record { some = omega arith; solid = refl }
IsWord-rule OutOfSegment = record { some = omega arith; solid = refl }
IsWord-rule TooManyAttached = record { some = omega arith; solid = refl }
IsWord-rule NoSlot = record { some = omega arith; solid = refl }
IsWord-rule ValueRange = record { some = omega arith; solid = refl }
IsWord-rule UndoRange = record { some = omega arith; solid = refl }
IsWord-rule NoMessage = record { some = omega arith; solid = refl }
IsWord-rule Removed = record { some = omega arith; solid = refl }

pub IsWord-error : (error : Errno) → IsWord (errors.name_of error)
unfolding errors.row_of
IsWord-error EPERM = record { some = omega arith; solid = refl }
IsWord-error ENOENT = record { some = omega arith; solid = refl }
IsWord-error ESRCH = record { some = omega arith; solid = refl }
IsWord-error EINTR = record { some = omega arith; solid = refl }
IsWord-error E2BIG = record { some = omega arith; solid = refl }
IsWord-error EAGAIN = record { some = omega arith; solid = refl }
IsWord-error ENOMEM = record { some = omega arith; solid = refl }
IsWord-error EACCES = record { some = omega arith; solid = refl }
IsWord-error EEXIST = record { some = omega arith; solid = refl }
IsWord-error EINVAL = record { some = omega arith; solid = refl }
IsWord-error EMFILE = record { some = omega arith; solid = refl }
IsWord-error EFBIG = record { some = omega arith; solid = refl }
IsWord-error ENOSPC = record { some = omega arith; solid = refl }
IsWord-error ERANGE = record { some = omega arith; solid = refl }
IsWord-error ENOMSG = record { some = omega arith; solid = refl }
IsWord-error EIDRM = record { some = omega arith; solid = refl }

pub small_number : (error : Errno) → errors.number_of error < 2 ^ 64
unfolding errors.row_of
small_number EPERM = omega arith
small_number ENOENT = omega arith
small_number ESRCH = omega arith
small_number EINTR = omega arith
small_number E2BIG = omega arith
small_number EAGAIN = omega arith
small_number ENOMEM = omega arith
small_number EACCES = omega arith
small_number EEXIST = omega arith
small_number EINVAL = omega arith
small_number EMFILE = omega arith
small_number EFBIG = omega arith
small_number ENOSPC = omega arith
small_number ERANGE = omega arith
small_number ENOMSG = omega arith
small_number EIDRM = omega arith
