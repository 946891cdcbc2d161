-- Rows of the journal that are handed out.
use Rattle.std.specs.Prelude.{◌≡◌, ◌≢◌, ℕ, ◌+◌, ◌<◌, ◌^◌, List, drop, length, vec_len, Result, Ok, Err}
use Rattle.std.specs.Global.{Vec}
use Rattle.ipc_call.specs.declared.calls.Call.{Call}
use Rattle.ipc_call.specs.declared.replies.JournalRow.{JournalRow}
use Rattle.ipc_call.specs.declared.replies.Reply.{Reply}
use Rattle.ipc_history.specs.History.{rows_of}
use Rattle.pub_rule.specs.declared.served.Served.{Ghosts}
use Rattle.pub_rule.specs.Work.{GoesOn}
use Rattle.pub_list.specs.declared.joined.Joined.{Joined}
use Rattle.pub_list.specs.Clients.{view, work, told}
use Rattle.pub_list.specs.Passing.{IsAsFar, KeepsMarks}
use Rattle.ipc_combiner.specs.declared.calls.Pass.TheVariants.{Busy as Met}
use Rattle.ipc_combiner.specs.declared.entries.Entry.{Entry}
use Rattle.ipc_combiner.specs.declared.entries.Keeping.{Keeping}
use Rattle.ipc_combiner.specs.declared.entries.Keeping.TheVariants.{Whole, UntilTaken, Nothing}
use Rattle.ipc_combiner.specs.declared.parts.Untaken.{Untaken}
use Rattle.ipc_combiner.specs.declared.parts.Untaken.TheVariants.{Busy, Elsewhere, NoParts}
use Rattle.ipc_combiner.specs.declared.shared.Shared.{Shared}
use Rattle.ipc_combiner.specs.Asking.{HasTried}
use Rattle.ipc_combiner.specs.Entries.{history_in, legal}
use Rattle.ipc_combiner.specs.States.{IsOf, Records, keeping}

-- the rows of a service's journal, oldest first
abbrev pub journal_of : List Entry → List JournalRow
journal_of h = rows_of (history_in h)

-- what comes of it where rows are asked for from this one on: they are the journal's from there to its end, which is fewer than
-- 2^64 rows; or another number of them was handed out
abbrev pub TakesPart : List Entry → ℕ → Result (Vec JournalRow) Untaken → Type 0
TakesPart h from (Ok rows) = (rows.items ≡ drop from (journal_of h)) × (from + vec_len rows ≡ length (journal_of h))
    × (length (journal_of h) < 2 ^ 64)
TakesPart h from (Err (Busy c)) = ⊥
TakesPart h from (Err (Elsewhere given)) = given ≢ from
TakesPart h from (Err NoParts) = ⊥

-- of a service that keeps this of its journal
abbrev pub Takes : Keeping → List Entry → ℕ → Result (Vec JournalRow) Untaken → Type 0
Takes UntilTaken h from result = TakesPart h from result
Takes Whole h from result = result ≡ Err NoParts
Takes Nothing h from result = result ≡ Err NoParts

module _ {g : Ghosts Shared Entry (ℕ × Call) Reply} where
  -- It held the journal of a legal history, which goes on from the one that it saw; and sees one that goes on from there. It
  -- is as far as it was with its own calls, and has lost nothing that it knew; it has begun to combine once more
  pub record HasHeld (list : Records) (v w : Joined Shared Entry (ℕ × Call) Reply g) (from : ℕ)
      (result : Result (Vec JournalRow) Untaken) : Type 0 where
    pub service : IsOf list w
    pub client : w.client ≡ v.client
    pub history : List Entry
    pub saw : GoesOn (work v).seen history
    pub sees : GoesOn history (work w).seen
    pub is_legal : legal history
    pub takes : Takes (keeping list) history from result
    pub far : IsAsFar (view v) (view w)
    pub marks : KeepsMarks (view v) (view w)
    pub heard : told w ≡ told v
    pub begun : (work w).begun ≡ (work v).begun + 1
    pub met : (work w).met ≡ (work v).met

  -- or another client combines, and nothing else has changed
  abbrev pub TriedToTake : Records → Joined Shared Entry (ℕ × Call) Reply g → Joined Shared Entry (ℕ × Call) Reply g
      → ℕ → Result (Vec JournalRow) Untaken → Type 0
  TriedToTake list v w from (Err (Busy c)) = HasTried list v w (Met c)
  TriedToTake list v w from (Ok rows) = HasHeld list v w from (Ok rows)
  TriedToTake list v w from (Err (Elsewhere given)) = HasHeld list v w from (Err (Elsewhere given))
  TriedToTake list v w from (Err NoParts) = HasHeld list v w from (Err NoParts)
