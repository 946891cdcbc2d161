-- What a part of the reader answers, beside what its text says: the value; nothing where the text is none; and nothing is
-- told where memory was refused.
use Rattle.std.specs.Prelude.{◌≡◌, ℕ, ◌<◌, ◌≤◌, ◌-◌, ◌^◌, min, Bool, true, IsTrue, length, List, Option, Some, None, Result, Ok, Err}
use Rattle.ipc_call.specs.Limits.{are_in_range}
use Rattle.ipc_call.specs.declared.limits.Limits.{Limits}
use Rattle.ipc_call.specs.declared.replies.JournalRow.{JournalRow}
use Rattle.ipc_creds.specs.Credentials.{Credentials}
use Rattle.ipc_journal_text.specs.CredentialsText.{Ids}
use Rattle.ipc_journal_text.specs.JournalText.{text_of}
use Rattle.ipc_journal_text.specs.Ranges.{IsJournal}
use Rattle.ipc_journal_text.specs.Reading.{Read}
use Rattle.ipc_journal_text.specs.declared.errors.Cause.{Cause}
use Rattle.ipc_journal_text.specs.declared.errors.Cause.TheVariants as causes
use Rattle.ipc_journal_text.specs.declared.errors.Unread.{Unread}
use Rattle.ipc_journal_text.specs.declared.errors.Unread.TheVariants as unread
use Rattle.ipc_journal_text.specs.declared.heads.Ids as heads
use Rattle.ipc_journal_text.specs.declared.reading.Recorded.{Recorded}

abbrev pub memory_lacked : Cause
memory_lacked = causes.Memory

abbrev pub out_of_memory : Unread
out_of_memory = unread.Memory

abbrev pub Gives : {A : Type 0} → Result A Cause → Option A → Type 0
Gives (Ok x) found = found ≡ Some x
Gives (Err causes.Memory) found = Unit {0}
Gives (Err (causes.Wanted wanted)) found = found ≡ None

-- the same where the value is left in place
abbrev pub Leaves : {A : Type 0} → Result (Unit {0}) Cause → A → Option A → Type 0
Leaves (Ok done) new found = found ≡ Some new
Leaves (Err causes.Memory) new found = Unit {0}
Leaves (Err (causes.Wanted wanted)) new found = found ≡ None

abbrev pub LeavesRead : Result (Unit {0}) Unread → Read → Option Read → Type 0
LeavesRead (Ok done) new found = found ≡ Some new
LeavesRead (Err unread.Memory) new found = Unit {0}
LeavesRead (Err other) new found = found ≡ None

-- what was read
abbrev pub shown : Recorded → Read
shown read = record { limits = read.limits; clients = read.clients.items; rows = read.rows.items }

-- the users and groups of a client
abbrev pub ids_shown : heads.Ids → Ids
ids_shown ids = record { effective = ids.effective; real = ids.real; saved = ids.saved }

-- what a cause in a line is told as
abbrev pub IsAt : ℕ → Cause → Unread → Type 0
IsAt line causes.Memory e = e ≡ unread.Memory
IsAt line (causes.Wanted wanted) e = e ≡ unread.Line line wanted

-- so many lines, as 64 bits count them
abbrev pub LeavesCount : Result ℕ Unread → Read → Option Read → ℕ → Type 0
LeavesCount (Ok number) new found lines = (found ≡ Some new) × (number ≡ min lines (2 ^ 64 - 1))
LeavesCount (Err unread.Memory) new found lines = Unit {0}
LeavesCount (Err other) new found lines = found ≡ None

-- the heading and the limits at least, with a line feed
abbrev pub AreEnough : ℕ → Bool → Result (Unit {0}) Unread → Type 0
AreEnough number is_ended (Ok done) = (is_ended ≡ true) × (8 ≤ number)
AreEnough number is_ended (Err unread.Memory) = ⊥
AreEnough number is_ended (Err other) = (is_ended ≡ true → number < 8)

-- memory was refused, or this doesn't hold
abbrev pub Refuses : Unread → Type 0 → Type 0
Refuses unread.Memory P = Unit {0}
Refuses other P = P → ⊥

-- what was read can be replayed, and is written as this text
pub record IsWritten (read : Read) (text : List ℕ) : Type 0 where
  pub in_range : IsTrue (are_in_range read.limits)
  pub some : 1 ≤ length read.clients
  pub few : length read.clients ≤ 4096
  pub same : text ≡ text_of read.limits read.clients read.rows

-- these were read; only a lack of memory is no fault
abbrev pub IsRead : Limits → List Credentials → List JournalRow → Result Recorded Unread → Type 0
IsRead limits clients rows (Ok read) = shown read ≡ record { limits = limits; clients = clients; rows = rows }
IsRead limits clients rows (Err unread.Memory) = Unit {0}
IsRead limits clients rows (Err other) = ⊥

-- the text of any journal is read back as that journal
abbrev pub ReadsBack : List ℕ → Result Recorded Unread → Type 0
ReadsBack text result =
    (limits : Limits) (clients : List Credentials) (rows : List JournalRow)
    → IsJournal limits clients rows → text ≡ text_of limits clients rows → IsRead limits clients rows result
