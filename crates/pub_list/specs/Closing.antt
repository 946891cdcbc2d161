-- A list that is closed: what its clients told.
use Rattle.std.specs.Prelude.{◌≡◌, ℕ, List}
use Rattle.atomic_table.specs.Seated.{TableId}
use Rattle.atomic_table.specs.declared.shared.Seat.{Seat}
use Rattle.pub_rule.specs.declared.walk.View.{View}
use Rattle.pub_rule.specs.declared.work.Work.{Work}
use Rattle.pub_rule.specs.declared.work.Closed.{Closed}
use Rattle.pub_rule.specs.declared.work.Stage.TheVariants.{Spent, Free, Away}
use Rattle.pub_rule.specs.declared.work.Stage.{Stage}
use Rattle.pub_rule.specs.Work.{IsAmong}
use Rattle.pub_rule.specs.WorkClosing.{last_told, IsTrueOf}
use Rattle.pub_rule.specs.declared.served.Served.{Ghosts}
use Rattle.pub_list.specs.declared.closing.End.{End}
use Rattle.pub_list.specs.declared.closing.End.TheVariants as ends
use Rattle.pub_list.specs.Lists.{IsSized}

-- The seat that closes the list.
module _ {T E C R : Type 0} where
  -- what the clients told, the last first
  abbrev pub told_at_close : Seat T (View (Work E C R)) → List (Closed E C R)
  told_at_close closer = closer.me.0.work.closed

  -- a seat of no client closes the list
  abbrev pub IsCloser : TableId → ℕ → ℕ → Seat T (View (Work E C R)) → Type 0
  IsCloser id key clients closer = IsSized id key clients × (closer.table_id ≡ id) × (closer.me.0.work.stage ≡ Spent)

-- a client's slot is given back
abbrev pub at_home : {C : Type 0} → Stage C → Stage C
at_home (Free q) = Away q
at_home s = s

-- What the clients told as they were handed in.
module _ {E C R : Type 0} where
  -- what a client tells, with its slot at home
  abbrev pub last_words : Work E C R → Closed E C R
  last_words w = record (last_told w) { stage = at_home w.stage }

  -- each client told what is true of this history
  abbrev pub AreTrue : (List E → ℕ → List C) → (List E → ℕ → List R) → List E → List (Closed E C R) → Type 0
  AreTrue own replies h closed = (c : Closed E C R) → IsAmong c closed → IsTrueOf own replies h closed c

-- the list of a client that is handed in, and what it knows of what is served
module _ {S E C R : Type 0} {g : Ghosts S E C R} where
  abbrev pub list_of : End S E C R g → TableId
  list_of (ends.Fresh f) = f.seat.table_id
  list_of (ends.Joined j) = j.seat.table_id

  abbrev pub work_of : End S E C R g → Work E C R
  work_of (ends.Fresh f) = f.seat.me.0.work
  work_of (ends.Joined j) = j.seat.me.0.work
