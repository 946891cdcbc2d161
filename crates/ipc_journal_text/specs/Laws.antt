-- What is true of the texts of all journals.
use Rattle.std.specs.Prelude.{◌≡◌, ℕ, List}
use Rattle.ipc_journal_text.specs.JournalText.{text_of}
use Rattle.ipc_journal_text.specs.Ranges.{IsJournal}
use Rattle.ipc_journal_text.specs.Reading.{Read}

abbrev pub text_in : Read → List ℕ
text_in read = text_of read.limits read.clients read.rows

abbrev pub HoldsJournal : Read → Type 0
HoldsJournal read = IsJournal read.limits read.clients read.rows

-- two journals with the same text are one
abbrev pub OneJournal : Type 0
OneJournal = (a b : Read) → HoldsJournal a → HoldsJournal b → text_in a ≡ text_in b → a ≡ b
