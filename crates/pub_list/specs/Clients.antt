-- A client that has joined, as contracts speak of it: what it knows, and to which list it belongs.
use Rattle.std.specs.Prelude.{◌≡◌, ℕ, List}
use Rattle.pub_rule.specs.declared.served.Served.{Ghosts}
use Rattle.pub_rule.specs.declared.walk.View.{View}
use Rattle.pub_rule.specs.declared.work.Work.{Work}
use Rattle.pub_list.specs.declared.fresh.Fresh.{Fresh}
use Rattle.pub_list.specs.declared.joined.Joined.{Joined}
use Rattle.pub_list.specs.declared.list.List.{List as Listing}
use Rattle.pub_list.specs.Joined as seats

-- What a client knows, and how it is left by a call.
module _ {S E C R : Type 0} {g : Ghosts S E C R} where
  -- what it knows
  abbrev pub view : Joined S E C R g → View (Work E C R)
  view j = j.seat.me.0

  -- what it knows of what is served
  abbrev pub work : Joined S E C R g → Work E C R
  work j = j.seat.me.0.work

  -- the list as it loaded it last, its head first
  abbrev pub seen : Joined S E C R g → List ℕ
  seen j = seats.seen j.seat

  -- of which other clients it was told that they joined
  abbrev pub told : Joined S E C R g → List ℕ
  told j = seats.told j.seat

  -- how often it tried to exchange the head
  abbrev pub tries : Joined S E C R g → ℕ
  tries j = seats.tries j.seat

  -- it is a client of this list
  abbrev pub BelongsTo : Listing S E C R → Joined S E C R g → Type 0
  BelongsTo list j = j.seat.table_id ≡ list.table.shared.table_id

  -- and so is one that hasn't joined
  abbrev pub IsFreshOf : Listing S E C R → Fresh S E C R g → Type 0
  IsFreshOf list f = f.seat.table_id ≡ list.table.shared.table_id

  -- the history that it saw
  abbrev pub first_seen : Fresh S E C R g → List E
  first_seen f = f.seat.me.0.work.seen

  -- it is the same client of the same list
  abbrev pub IsSame : Joined S E C R g → Joined S E C R g → Type 0
  IsSame old new = (new.client ≡ old.client) × (new.seat.table_id ≡ old.seat.table_id)

  -- and was told of the same clients, and knows the same of what is served
  abbrev pub IsStill : Joined S E C R g → Joined S E C R g → Type 0
  IsStill old new = (new.client ≡ old.client) × seats.IsStill old.seat new.seat

  -- it is the same client, and knows just what it knew
  abbrev pub IsAsItWas : Joined S E C R g → Joined S E C R g → Type 0
  IsAsItWas old new = IsSame old new × (view new ≡ view old)

  -- the whole list was loaded: it has the client itself and all of whom it was told, and ends with the list as it was
  -- loaded before
  abbrev pub SeesAll : Joined S E C R g → Joined S E C R g → Type 0
  SeesAll old new = seats.SeesAll old.client old.seat new.seat

  -- client c was on the list as it was loaded before, which stays; or more of the list is seen, from c on
  abbrev pub SeesFrom : ℕ → Joined S E C R g → Joined S E C R g → Type 0
  SeesFrom c old new = seats.SeesFrom c old.seat new.seat
