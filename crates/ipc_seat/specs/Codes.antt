-- The numbers that C sees: 0 and above for how far a call is, below 0 for an error.
use Rattle.std.specs.Prelude.{ℕ, ℤ, pos, negsuc, Result, Ok, Err}
use Rattle.ipc_abi.specs.declared.requests.BadRequest.{BadRequest}
use Rattle.ipc_abi.specs.declared.requests.BadRequest.TheVariants as bad
use Rattle.ipc_seat.specs.declared.calls.Progress.{Progress}
use Rattle.ipc_seat.specs.declared.calls.Progress.TheVariants.{InFlight, Waiting, Answered}
use Rattle.ipc_seat.specs.declared.opening.NotOpened.{NotOpened}
use Rattle.ipc_seat.specs.declared.opening.NotOpened.TheVariants as opening
use Rattle.ipc_seat.specs.declared.seat.SeatError.{SeatError}
use Rattle.ipc_seat.specs.declared.seat.SeatError.TheVariants as errors
use Rattle.journal_reader.specs.declared.states.Unread.{Unread}
use Rattle.journal_reader.specs.declared.states.Unread.TheVariants as unreads

abbrev pub code_of_progress : Progress → ℤ
code_of_progress Answered = pos 0
code_of_progress InFlight = pos 1
code_of_progress Waiting = pos 2

-- -1 to -7, and -11 and -12
abbrev pub code_of_error : SeatError → ℤ
code_of_error errors.InFlight = negsuc 0
code_of_error errors.Untaken = negsuc 1
code_of_error errors.NoCall = negsuc 2
code_of_error errors.Left = negsuc 3
code_of_error errors.Unknown = negsuc 4
code_of_error errors.NoRoom = negsuc 5
code_of_error errors.Memory = negsuc 6
code_of_error errors.Combining = negsuc 10
code_of_error errors.NoJournal = negsuc 11

-- ENOMEM and no room as above, and -8 and -9
abbrev pub code_of_opening : NotOpened → ℤ
code_of_opening opening.Memory = negsuc 6
code_of_opening opening.BadLimits = negsuc 7
code_of_opening opening.BadClients = negsuc 8
code_of_opening opening.NoRoom = negsuc 5

abbrev pub error_of_request : BadRequest → SeatError
error_of_request bad.Unknown = errors.Unknown
error_of_request bad.Memory = errors.Memory

abbrev pub error_of_unread : Unread → SeatError
error_of_unread (unreads.Busy client) = errors.Combining
error_of_unread unreads.NoJournal = errors.NoJournal
error_of_unread unreads.Memory = errors.Memory

abbrev pub code_of_read : Result ℕ SeatError → ℤ
code_of_read (Ok count) = pos 0
code_of_read (Err error) = code_of_error error

abbrev pub code_of_post : Result (Unit {0}) SeatError → ℤ
code_of_post (Ok u) = pos 0
code_of_post (Err error) = code_of_error error

abbrev pub code_of_advance : Result Progress SeatError → ℤ
code_of_advance (Ok progress) = code_of_progress progress
code_of_advance (Err error) = code_of_error error
