-- Replay: of which history rows are the journal, or how far they are one.
use Rattle.std.specs.Prelude.{◌≡◌, ℕ, ◌≤◌, List, ◌++◌, length, take}
use Rattle.ipc_call.specs.declared.limits.Limits.{Limits}
use Rattle.ipc_call.specs.declared.replies.JournalRow.{JournalRow}
use Rattle.ipc_creds.specs.Credentials.{Credentials}
use Rattle.ipc_history.specs.History.{History, IsLegal, rows_of}
use Rattle.ipc_space.specs.declared.replaying.Replayed.{Replayed}
use Rattle.ipc_space.specs.declared.replaying.Replayed.TheVariants.{Same, Differs}

-- the second rows begin with the first
abbrev pub IsPrefix : List JournalRow → List JournalRow → Type 0
IsPrefix xs ys = (rest : List JournalRow) × (ys ≡ xs ++ rest)

-- a legal history of a namespace that was opened with these limits and credentials
pub record IsHistoryOf (limits : Limits) (clients : List Credentials) (h : History) : Type 0 where
  pub limited : h.limits ≡ limits
  pub known : h.clients ≡ clients
  pub legal : IsLegal h

-- the count of the longest prefix of the rows that is a prefix of the journal of such a history: that many begin the
-- journal of some, and wherever some begin the journal of any, they aren't more
pub record IsLongest (limits : Limits) (clients : List Credentials) (rows : List JournalRow) (count : ℕ) : Type 0 where
  pub within : count ≤ length rows
  pub begins : (h : History) × IsHistoryOf limits clients h × IsPrefix (take count rows) (rows_of h)
  pub most : (h : History) (other : ℕ)
      → IsHistoryOf limits clients h → other ≤ length rows → IsPrefix (take other rows) (rows_of h) → other ≤ count

-- the rows are the journal of no such history, and how far they begin one
pub record AreNoJournal (limits : Limits) (clients : List Credentials) (rows : List JournalRow) (count : ℕ) : Type 0 where
  pub longest : IsLongest limits clients rows count
  pub none : (h : History) → IsHistoryOf limits clients h → rows_of h ≡ rows → ⊥

-- what a replay tells: the namespace of such a history whose journal is all of the rows; or, where there is none, how
-- far they begin one
abbrev pub Replays : Limits → List Credentials → List JournalRow → Replayed → Type 0
Replays limits clients rows (Same space) = IsHistoryOf limits clients space × (rows_of space ≡ rows)
Replays limits clients rows (Differs count) = AreNoJournal limits clients rows count
