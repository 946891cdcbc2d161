-- Where rows part from what the definitions give, and what these give there.
use Rattle.std.specs.Prelude.{◌≡◌, ℕ, Option, Some, None, List, IfSome, slice_get, take}
use Rattle.ipc_call.specs.declared.limits.Limits.{Limits}
use Rattle.ipc_call.specs.declared.replies.JournalRow.{JournalRow}
use Rattle.ipc_creds.specs.Credentials.{Credentials}
use Rattle.ipc_history.specs.History.{History, rows_of}
use Rattle.ipc_space.specs.Following.{IsAnswered}
use Rattle.ipc_space.specs.Replays.{AreNoJournal, IsHistoryOf}
use Rattle.ipc_space.specs.declared.comparing.Compared.{Compared}
use Rattle.ipc_space.specs.declared.comparing.Compared.TheVariants.{Same, Differs}

-- the rows are the journal of no legal history, and so many begin one: that of this history. What its journal has behind
-- them, if anything, is an answer, which every legal history gives that they begin
pub record Parts (limits : Limits) (clients : List Credentials) (rows : List JournalRow) (count : ℕ) (h : History) : Type 0 where
  pub none : AreNoJournal limits clients rows count
  pub known : IsHistoryOf limits clients h
  pub begins : take count (rows_of h) ≡ take count rows
  pub next : IfSome (slice_get (rows_of h) count) (λ row. IsAnswered row)

-- the rows are the journal of this history; or of none, and so many begin this one's
abbrev pub Reached : Limits → List Credentials → List JournalRow → History → Option ℕ → Type 0
Reached limits clients rows h None = IsHistoryOf limits clients h × (rows_of h ≡ rows)
Reached limits clients rows h (Some count) = Parts limits clients rows count h

abbrev pub Compares : Limits → List Credentials → List JournalRow → Compared → Type 0
Compares limits clients rows (Same space) = IsHistoryOf limits clients space × (rows_of space ≡ rows)
Compares limits clients rows (Differs count space) = Parts limits clients rows count space
