-- The rules by which calls are refused, each with its error and its printed name.
use Rattle.std.specs.Prelude.{ℕ, List, codes}
use Rattle.ipc_call.specs.declared.rules.Rule.{Rule}
use Rattle.ipc_call.specs.declared.rules.Rule.TheVariants.{NotOwner, NeedsResource, NotSameUser, NotOwnUser, NotOwnGroup, NeedsSetgid, TooManyGroups, NoKey, NoProcess}
use Rattle.ipc_call.specs.declared.rules.Rule.TheVariants.{Interrupted, MessageTooLong, QueueFull, WouldWait, TimedOut, OwnerBits}
use Rattle.ipc_call.specs.declared.rules.Rule.TheVariants.{GroupBits, OtherBits, KeyExists, BadId, BadType}
use Rattle.ipc_call.specs.declared.rules.Rule.TheVariants.{TextTooLong, BadArgument, NoSlot, ValueRange, UndoRange}
use Rattle.ipc_call.specs.declared.rules.Rule.TheVariants.{NoMessage, Removed, Ended, ClientInUse, PidInUse, BadPid, NoClient, TooManyOperations, BadSize}
use Rattle.ipc_call.specs.declared.rules.Rule.TheVariants.{BadSem, NoOperations, SemOutOfSet, ReadOnly, NotAttached, OutOfSegment, TooManyAttached}
use Rattle.ipc_call.specs.Errors as errors
use Rattle.ipc_call.specs.declared.error.Errno.{Errno}
use Rattle.ipc_call.specs.declared.error.Errno.TheVariants.{EPERM, ENOENT, ESRCH, EINTR, E2BIG, EAGAIN}
use Rattle.ipc_call.specs.declared.error.Errno.TheVariants.{EACCES, EEXIST, EINVAL, EMFILE, EFBIG, ENOSPC, ERANGE, ENOMSG, EIDRM}

unfoldable pub row_of : Rule → Errno × List ℕ
row_of NotOwner = (EPERM, codes "not-owner")
row_of NeedsResource = (EPERM, codes "needs-resource")
row_of NotSameUser = (EPERM, codes "not-same-user")
row_of NotOwnUser = (EPERM, codes "not-own-user")
row_of NotOwnGroup = (EPERM, codes "not-own-group")
row_of NeedsSetgid = (EPERM, codes "needs-setgid")
row_of TooManyGroups = (EINVAL, codes "too-many-groups")
row_of NoKey = (ENOENT, codes "no-key")
row_of Ended = (ESRCH, codes "ended")
row_of ClientInUse = (EAGAIN, codes "client-in-use")
row_of PidInUse = (EEXIST, codes "pid-in-use")
row_of BadPid = (EINVAL, codes "bad-pid")
row_of NoClient = (ESRCH, codes "no-client")
row_of NoProcess = (ESRCH, codes "no-process")
row_of Interrupted = (EINTR, codes "interrupted")
row_of MessageTooLong = (E2BIG, codes "message-too-long")
row_of TooManyOperations = (E2BIG, codes "too-many-operations")
row_of QueueFull = (EAGAIN, codes "queue-full")
row_of WouldWait = (EAGAIN, codes "would-wait")
row_of TimedOut = (EAGAIN, codes "timed-out")
row_of OwnerBits = (EACCES, codes "owner-bits")
row_of GroupBits = (EACCES, codes "group-bits")
row_of OtherBits = (EACCES, codes "other-bits")
row_of ReadOnly = (EACCES, codes "read-only")
row_of KeyExists = (EEXIST, codes "key-exists")
row_of BadId = (EINVAL, codes "bad-id")
row_of BadType = (EINVAL, codes "bad-type")
row_of TextTooLong = (EINVAL, codes "text-too-long")
row_of BadSize = (EINVAL, codes "bad-size")
row_of BadSem = (EINVAL, codes "bad-sem")
row_of BadArgument = (EINVAL, codes "bad-argument")
row_of NoOperations = (EINVAL, codes "no-operations")
row_of NotAttached = (EINVAL, codes "not-attached")
row_of OutOfSegment = (EINVAL, codes "out-of-segment")
row_of TooManyAttached = (EMFILE, codes "too-many-attached")
row_of SemOutOfSet = (EFBIG, codes "sem-out-of-set")
row_of NoSlot = (ENOSPC, codes "no-slot")
row_of ValueRange = (ERANGE, codes "value-range")
row_of UndoRange = (ERANGE, codes "undo-range")
row_of NoMessage = (ENOMSG, codes "no-message")
row_of Removed = (EIDRM, codes "removed")

abbrev pub error_of : Rule → Errno
error_of rule = (row_of rule).0

abbrev pub name_of_rule : Rule → List ℕ
name_of_rule rule = (row_of rule).1

abbrev pub number_of : Rule → ℕ
number_of rule = errors.number_of (error_of rule)
