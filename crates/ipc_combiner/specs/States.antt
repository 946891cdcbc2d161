-- What the service and its clients are.
use Rattle.std.specs.Prelude.{◌≡◌, ℕ, Bool, true, false, List, [], length, box_value}
use Rattle.ipc_call.specs.declared.calls.Call.{Call}
use Rattle.ipc_call.specs.declared.replies.Reply.{Reply}
use Rattle.pub_rule.specs.declared.served.Served.{Ghosts}
use Rattle.pub_rule.specs.declared.work.Stage.{Stage}
use Rattle.pub_rule.specs.declared.work.Stage.TheVariants.{Free, Asking}
use Rattle.pub_rule.specs.Work.{GoesOn}
use Rattle.pub_list.specs.declared.fresh.Fresh.{Fresh}
use Rattle.pub_list.specs.declared.joined.Joined.{Joined}
use Rattle.pub_list.specs.declared.list.List.{List as Listing}
use Rattle.pub_list.specs.Clients.{first_seen, work, BelongsTo, IsFreshOf}
use Rattle.pub_list.specs.Opening.{opening_of}
use Rattle.ipc_history.specs.History.{History}
use Rattle.ipc_combiner.specs.declared.entries.Entry.{Entry}
use Rattle.ipc_combiner.specs.declared.entries.Keeping.{Keeping}
use Rattle.ipc_combiner.specs.declared.shared.Shared.{Shared}
use Rattle.ipc_combiner.specs.Entries.{entries_of, legal, own, replies}

-- the list of a service
abbrev pub Records : Type 0
Records = Listing Shared Entry (ℕ × Call) Reply

-- what the service was opened with: a history without events
abbrev pub opened : Records → History
opened list = (box_value (opening_of list).ledger).history

-- what it keeps of its journal
abbrev pub keeping : Records → Keeping
keeping list = (opening_of list).keeping

-- what it was opened as
abbrev pub first_entries : Records → List Entry
first_entries list = entries_of (keeping list) (opened list)

-- it was opened for as many clients as the list has, and nobody had called
abbrev pub IsOpened : Records → Type 0
IsOpened list = (length (opened list).clients ≡ list.clients) × ((opened list).events ≡ [])

-- a call is in flight
abbrev pub is_asking : {C : Type 0} → Stage C → Bool
is_asking (Asking client call) = true
is_asking _ = false

module _ {g : Ghosts Shared Entry (ℕ × Call) Reply} where
  -- it asks nothing and doesn't combine, and the history that it sees is legal, and has just the calls that it entered
  -- and the replies that it got
  abbrev pub IsIdle : Joined Shared Entry (ℕ × Call) Reply g → Type 0
  IsIdle j = ((work j).stage ≡ Free j.client) × ((work j).holds ≡ false)
      × (own (work j).seen j.client ≡ (work j).entered) × (replies (work j).seen j.client ≡ (work j).got)
      × legal (work j).seen

  -- its call is in flight, and it doesn't combine, and the history that it sees is legal
  abbrev pub IsInFlight : Joined Shared Entry (ℕ × Call) Reply g → Type 0
  IsInFlight j = (is_asking (work j).stage ≡ true) × ((work j).holds ≡ false) × legal (work j).seen

  -- it is a client of this service, and sees a history that goes on from its opening
  abbrev pub IsOf : Records → Joined Shared Entry (ℕ × Call) Reply g → Type 0
  IsOf list j = BelongsTo list j × GoesOn (first_entries list) (work j).seen

  abbrev pub IsUnjoinedOf : Records → Fresh Shared Entry (ℕ × Call) Reply g → Type 0
  IsUnjoinedOf list f = IsFreshOf list f × (first_seen f ≡ first_entries list)
