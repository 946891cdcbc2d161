-- The clients of a service that was opened.
use Rattle.std.specs.Prelude.{◌≡◌, ℕ, ◌≤◌, Bool, true, false, List, [], length, map, Box, box_value, All, IfSome}
use Rattle.std.specs.List.{slice_get}
use Rattle.ipc_call.specs.declared.limits.Limits.{Limits}
use Rattle.ipc_creds.specs.Credentials.{Credentials}
use Rattle.ipc_abi.specs.Openings.{IsValid}
use Rattle.ipc_abi.specs.declared.opening.RawClient.{RawClient}
use Rattle.ipc_combiner.specs.declared.entries.Keeping.{Keeping}
use Rattle.ipc_combiner.specs.declared.entries.Keeping.TheVariants.{UntilTaken, Nothing}
use Rattle.ipc_member.specs.Members.{AreOf, number_of}
use Rattle.ipc_member.specs.declared.states.Member.{Member}
use Rattle.ipc_seat.specs.declared.seat.Seat.{Seat}
use Rattle.ipc_seat.specs.Journals.{IsFirst, journal_of}
use Rattle.ipc_seat.specs.Seats.{State, Idle, state_of}

-- what a service keeps of its journal, where a client is to read it and where none is
abbrev pub keeping_for : Bool → Keeping
keeping_for true = UntilTaken
keeping_for false = Nothing

-- 1 to 64 clients, each with credentials that there can be
abbrev pub AreClients : List RawClient → Type 0
AreClients clients = (1 ≤ length clients) × (length clients ≤ 64) × All IsValid clients

module _ {Z : Type 0} where
  abbrev pub state_in : Box Seat Z → State
  state_in seat = state_of (box_value seat)

  -- each of these clients has a value of its own, in their order, and asks nothing
  abbrev pub AreSeated : List Member → List (Box Seat Z) → Type 0
  AreSeated members seats = map state_in seats ≡ map (λ m. Idle m) members

  -- the first of them has read nothing of the journal, where there is one
  abbrev pub FirstReads : Bool → Limits → List Credentials → List (Box Seat Z) → Type 0
  FirstReads journal limits clients seats = journal ≡ true
      → IfSome (slice_get seats 0) (λ seat. IsFirst limits clients (journal_of (box_value seat)))

  -- of a service that was opened so, with a journal or without: its clients have these credentials and are numbered in their
  -- order
  abbrev pub AreOpened : Bool → Limits → List Credentials → List (Box Seat Z) → Type 0
  AreOpened journal limits clients seats = (members : List Member)
      × AreOf (keeping_for journal) (record { limits = limits; clients = clients; events = [] }) members
      × (length members ≡ length clients) × ((k : ℕ) → IfSome (slice_get members k) (λ m. number_of m ≡ k))
      × AreSeated members seats × FirstReads journal limits clients seats
