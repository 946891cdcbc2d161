-- A client reads the text of its service's journal.
use Rattle.std.specs.Prelude.{◌≡◌, ℕ, ℤ, List, [], Option, Some, None, option_map, box_value, Result, Ok, Err}
use Rattle.ipc_call.specs.declared.limits.Limits.{Limits}
use Rattle.ipc_creds.specs.Credentials.{Credentials}
use Rattle.ipc_journal_text.specs.JournalText.{text_of}
use Rattle.ipc_member.specs.declared.states.Member.{Member}
use Rattle.journal_reader.specs.Reading.{unread, Reads}
use Rattle.journal_reader.specs.declared.states.Reader.{Reader}
use Rattle.journal_reader.specs.declared.states.Unread.{Unread}
use Rattle.ipc_seat.specs.Codes.{code_of_read, error_of_unread}
use Rattle.ipc_seat.specs.Seats.{State, Idle, InFlight, Answered, Left, state_of}
use Rattle.ipc_seat.specs.declared.seat.Seat.{Seat}
use Rattle.ipc_seat.specs.declared.seat.SeatError.{SeatError}
use Rattle.ipc_seat.specs.declared.seat.SeatError.TheVariants as errors

-- what of the journal's text it has to read
abbrev pub journal_of : Seat → Option Reader
journal_of seat = option_map (λ reader. box_value reader) seat.journal

-- what reading on comes to
abbrev pub read_of : Result ℕ Unread → Result ℕ SeatError
read_of (Ok count) = Ok count
read_of (Err why) = Err (error_of_unread why)

-- nothing was read, and the client is as it was
abbrev pub ReadsNothing : SeatError → Seat → List ℕ → Seat → List ℕ → Result ℕ SeatError → Type 0
ReadsNothing why v out w out' result = (state_of w ≡ state_of v) × (journal_of w ≡ journal_of v) × (out' ≡ out) × (result ≡ Err why)

-- its reader reads on by this client, whose state is otherwise what it was
abbrev pub ReadsOn : Reader → Member → (Member → State) → List ℕ → Seat → List ℕ → Result ℕ SeatError → Type 0
ReadsOn r m put out w out' result = (now : Reader) × (then : Member) × (came : Result ℕ Unread)
    × Reads r m out now then out' came × (state_of w ≡ put then) × (journal_of w ≡ Some now) × (result ≡ read_of came)

abbrev pub ReadsIn : State → Option Reader → Seat → List ℕ → Seat → List ℕ → Result ℕ SeatError → Type 0
ReadsIn state None v out w out' result = ReadsNothing errors.NoJournal v out w out' result
ReadsIn (Idle m) (Some r) v out w out' result = ReadsOn r m (λ n. Idle n) out w out' result
ReadsIn (Answered m reply) (Some r) v out w out' result = ReadsOn r m (λ n. Answered n reply) out w out' result
ReadsIn (InFlight p) (Some r) v out w out' result = ReadsNothing errors.InFlight v out w out' result
ReadsIn Left (Some r) v out w out' result = ReadsNothing errors.Left v out w out' result

abbrev pub ReadsJournal : Seat → List ℕ → Seat → List ℕ → Result ℕ SeatError → Type 0
ReadsJournal v out w out' result = ReadsIn (state_of v) (journal_of v) v out w out' result

-- how many bytes that is; where none are read the number is as it was
abbrev pub read_count : Result ℕ SeatError → ℕ → ℕ
read_count (Ok count) len = count
read_count (Err why) len = len

-- the same as C has it: how many bytes were read where the code is 0
abbrev pub ReadsInNumbers : Seat → List ℕ → ℕ → Seat → List ℕ → ℕ → ℤ → Type 0
ReadsInNumbers v out len w out' len' code = (result : Result ℕ SeatError) × ReadsJournal v out w out' result
    × (code ≡ code_of_read result) × (len' ≡ read_count result len)

-- a reader that has read nothing of the journal of a service that was opened so
abbrev pub IsFirst : Limits → List Credentials → Option Reader → Type 0
IsFirst limits clients None = ⊥
IsFirst limits clients (Some r) = (unread r ≡ text_of limits clients []) × (r.taken ≡ 0)
