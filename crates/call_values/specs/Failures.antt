-- The numbers of failures, as errno(3) has them on Linux.
use Rattle.std.specs.Prelude.{ℕ}
use Rattle.ipc_call.specs.Rules.{number_of}
use Rattle.call_values.specs.declared.failure.Failure.{Failure}
use Rattle.call_values.specs.declared.failure.Failure.TheVariants.{Refused, Memory, NoClient, Waiting, Untaken}

-- ENOMEM 12, ESRCH 3, EBUSY 16
abbrev pub number_of_failure : Failure → ℕ
number_of_failure (Refused rule) = number_of rule
number_of_failure Memory = 12
number_of_failure NoClient = 3
number_of_failure Waiting = 16
number_of_failure Untaken = 16
