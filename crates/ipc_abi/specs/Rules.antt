-- The codes of rules, from 1. 0 is the code of none.
use Rattle.std.specs.Prelude.{ℕ}
use Rattle.ipc_call.specs.declared.rules.Rule.{Rule}
use Rattle.ipc_call.specs.declared.rules.Rule.TheVariants.{NotOwner, NeedsResource, NotSameUser, NotOwnUser, NotOwnGroup, NeedsSetgid, TooManyGroups, NoKey}
use Rattle.ipc_call.specs.declared.rules.Rule.TheVariants.{Ended, NoProcess, Interrupted, MessageTooLong, TooManyOperations, QueueFull, WouldWait, TimedOut}
use Rattle.ipc_call.specs.declared.rules.Rule.TheVariants.{OwnerBits, GroupBits, OtherBits, ReadOnly, KeyExists, BadId, BadType, TextTooLong}
use Rattle.ipc_call.specs.declared.rules.Rule.TheVariants.{BadSize, BadSem, BadArgument, NoOperations, SemOutOfSet, NotAttached, OutOfSegment, TooManyAttached}
use Rattle.ipc_call.specs.declared.rules.Rule.TheVariants.{NoSlot, ValueRange, UndoRange, NoMessage, Removed, ClientInUse, PidInUse, BadPid, NoClient}

abbrev pub code_of_rule : Rule → ℕ
code_of_rule NotOwner = 1
code_of_rule NeedsResource = 2
code_of_rule NotSameUser = 3
code_of_rule NotOwnUser = 4
code_of_rule NotOwnGroup = 5
code_of_rule NeedsSetgid = 6
code_of_rule TooManyGroups = 7
code_of_rule NoKey = 8
code_of_rule Ended = 9
code_of_rule NoProcess = 10
code_of_rule Interrupted = 11
code_of_rule MessageTooLong = 12
code_of_rule TooManyOperations = 13
code_of_rule QueueFull = 14
code_of_rule WouldWait = 15
code_of_rule TimedOut = 16
code_of_rule OwnerBits = 17
code_of_rule GroupBits = 18
code_of_rule OtherBits = 19
code_of_rule ReadOnly = 20
code_of_rule KeyExists = 21
code_of_rule BadId = 22
code_of_rule BadType = 23
code_of_rule TextTooLong = 24
code_of_rule BadSize = 25
code_of_rule BadSem = 26
code_of_rule BadArgument = 27
code_of_rule NoOperations = 28
code_of_rule SemOutOfSet = 29
code_of_rule NotAttached = 30
code_of_rule OutOfSegment = 31
code_of_rule TooManyAttached = 32
code_of_rule NoSlot = 33
code_of_rule ValueRange = 34
code_of_rule UndoRange = 35
code_of_rule NoMessage = 36
code_of_rule Removed = 37
code_of_rule ClientInUse = 38
code_of_rule PidInUse = 39
code_of_rule BadPid = 40
code_of_rule NoClient = 41
