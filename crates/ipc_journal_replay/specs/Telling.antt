-- Where rows part from what the definitions give, as text. The text is the project's own.
use Rattle.std.specs.Prelude.{ℕ, ◌+◌, List, ◌++◌, codes, decimal, nat_lt, Option, Some, None, slice_get, if◌then◌else◌}
use Rattle.ipc_call.specs.declared.replies.JournalRow.{JournalRow}
use Rattle.ipc_call.specs.declared.replies.JournalRow.TheVariants.{Called, Answered}
use Rattle.ipc_journal_text.specs.JournalText.{row_text}

-- the line of the text at which a row stands, behind so many lines and the clients, and its number from 1
unfoldable pub place_text : ℕ → ℕ → ℕ → List ℕ
place_text head clients count =
    codes "line "
    ++ (decimal (head + 1 + clients + count) ++ (codes ", row " ++ (decimal (count + 1) ++ codes ": the journal differs\n")))

-- what a journal has
abbrev pub found_row : Option JournalRow → List ℕ
found_row None = codes "nothing more\n"
found_row (Some row) = row_text row

unfoldable pub found_text : Option JournalRow → List ℕ
found_text found = codes "it has:               " ++ found_row found

-- why a call isn't one of the next: its client isn't there, or waits
abbrev pub no_call : ℕ → ℕ → List ℕ
no_call clients client =
    if nat_lt client clients then codes "no call, since client " ++ (decimal client ++ codes " waits\n")
    else codes "no call, since there is no client " ++ (decimal client ++ codes "\n")

-- why no row that stands where an event has all its answers is one of the next
abbrev pub why_none : ℕ → Option JournalRow → List ℕ
why_none clients None = codes "nothing more\n"
why_none clients (Some (Called client now call)) = no_call clients client
why_none clients (Some (Answered client place turn rule)) = codes "no answer: none is due\n"

-- what the definitions give there
abbrev pub given_row : ℕ → Option JournalRow → Option JournalRow → List ℕ
given_row clients None found = why_none clients found
given_row clients (Some row) found = row_text row

unfoldable pub given_text : ℕ → Option JournalRow → Option JournalRow → List ℕ
given_text clients given found = codes "the definitions give: " ++ given_row clients given found

-- the place, what rows have there, and what a journal gives of so many lines before the clients, and of so many clients
abbrev pub difference_text : ℕ → ℕ → List JournalRow → ℕ → List JournalRow → List ℕ
difference_text head clients rows count journal =
    place_text head clients count
    ++ (found_text (slice_get rows count) ++ given_text clients (slice_get journal count) (slice_get rows count))
