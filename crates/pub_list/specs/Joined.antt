-- A client that has joined.
use Rattle.std.specs.Prelude.{◌≡◌, ℕ, Bool, true, false, ◌+◌, ◌-◌, ◌<◌, ◌==◌, ◌||◌, List, [], ◌∷◌, Option, Some, None}
use Rattle.std.specs.Prelude.{if◌then◌else◌}
use Rattle.atomic_table.specs.declared.shared.Seat.{Seat}
use Rattle.pub_rule.specs.declared.walk.View.{View}
use Rattle.pub_rule.specs.declared.walk.Role.TheVariants as roles
use Rattle.pub_rule.specs.declared.work.Work.{Work}
use Rattle.pub_rule.specs.declared.work.Stage.{Stage}
use Rattle.pub_rule.specs.declared.work.Stage.TheVariants.{Free, Asking}
use Rattle.pub_rule.specs.declared.work.Serving.{Serving}
use Rattle.pub_rule.specs.declared.work.Serving.TheVariants.{Nothing, Posted, Parked}
use Rattle.pub_rule.specs.declared.served.Slot.{Slot}
use Rattle.pub_rule.specs.declared.served.Slot.TheVariants as slots
use Rattle.pub_rule.specs.Work.{IsTaken, IsMarked}
use Rattle.pub_rule.specs.WorkSplits.{owner_of}
use Rattle.pub_rule.specs.Lists.{IsOn, EndsWith}

-- the client that a word of the list leads to
abbrev pub client_at : ℕ → Option ℕ
client_at link = if link == 0 then None else Some (link - 1)

-- whether the client is on the list
abbrev pub is_on : ℕ → List ℕ → Bool
is_on c [] = false
is_on c (x ∷ xs) = (c == x) || is_on c xs

-- What the seat of a client knows of the list, by its names in contracts.
module _ {T W : Type 0} where
  -- the list as a client loaded it last, its head first
  abbrev pub seen : Seat T (View W) → List ℕ
  seen seat = seat.me.0.walk.list

  -- of which other clients it was told that they joined
  abbrev pub told : Seat T (View W) → List ℕ
  told seat = seat.me.0.walk.known

  -- how often it tried to exchange the head
  abbrev pub tries : Seat T (View W) → ℕ
  tries seat = seat.me.0.walk.tries

  -- what it knows of what is served
  abbrev pub work : Seat T (View W) → W
  work seat = seat.me.0.work

  -- the same list serves the seat, it was told of the same clients, and it knows the same of what is served
  abbrev pub IsStill : Seat T (View W) → Seat T (View W) → Type 0
  IsStill old new = (new.table_id ≡ old.table_id) × (told new ≡ told old) × (tries new ≡ tries old)
      × (work new ≡ work old)

  -- the whole list was loaded: it has the client itself and all of whom it was told, and ends with the list as it was
  -- loaded before
  abbrev pub SeesAll : ℕ → Seat T (View W) → Seat T (View W) → Type 0
  SeesAll client old new = IsOn client (seen new) × ((c : ℕ) → IsOn c (told old) → IsOn c (seen new))
      × EndsWith (seen new) (seen old)

  -- client c was on the list as it was loaded before, which stays; or more of the list is seen, from c on
  abbrev pub SeesFrom : ℕ → Seat T (View W) → Seat T (View W) → Type 0
  SeesFrom c old new = IsOn c (seen new) × EndsWith (seen new) (seen old) × (IsOn c (seen old) → seen new ≡ seen old)

-- whether the client asks nothing and has its slot in its hands, or its call is in flight
abbrev pub is_live : {C : Type 0} → Stage C → Bool
is_live (Free q) = true
is_live (Asking q c) = true
is_live _ = false

-- The slots in the hands of a client, by how far it is.
module _ {C R S : Type 0} where
  -- a client that asks nothing has its own slot in its hands
  abbrev pub own_slot : Stage C → List (ℕ × Slot C R S)
  own_slot (Free q) = (q, slots.Empty) ∷ []
  own_slot _ = []

  -- a combiner has the state's too, the last of all, from which it took the state
  abbrev pub with_state : ℕ → Bool → List (ℕ × Slot C R S) → List (ℕ × Slot C R S)
  with_state n true own = (n, slots.Empty) ∷ own
  with_state n false own = own

  -- and that of the record which it took
  abbrev pub with_taken : Serving C → List (ℕ × Slot C R S) → List (ℕ × Slot C R S)
  with_taken Nothing others = others
  with_taken (Posted r c) others = (r, slots.Empty) ∷ others
  with_taken (Parked r c) others = (r, slots.Empty) ∷ others

-- What is true of each client that has joined.
module _ {E C R S : Type 0} where
  -- a client that has joined, of a list of n, with what it knows of what is served and the slots in its hands
  pub record IsWorking (client n : ℕ) (w : Work E C R) (hands : List (ℕ × Slot C R S)) : Type 0 where
    pub own : owner_of w.stage ≡ client
    pub live : is_live w.stage ≡ true
    pub hands_are : hands ≡ with_taken w.serving (with_state n w.holds (own_slot w.stage))
    pub quiet : w.holds ≡ false → w.serving ≡ Nothing
    pub below : (r : ℕ) → IsTaken r w.serving → r < n

  -- the seat of a client that has joined; all that it knows of are among the clients
  pub record IsJoined (client : ℕ) (seat : Seat (Slot C R S) (View (Work E C R))) : Type 0 where
    pub role : seat.me.0.walk.role ≡ roles.Joined client
    pub working : IsWorking client (seat.table_id.slots - 1) (work seat) seat.me.1
    pub small : client + 1 < seat.table_id.slots
    pub listed : (c : ℕ) → IsOn c (seen seat) → c < seat.table_id.slots - 1
    pub others : (c : ℕ) → IsOn c (told seat) → c < seat.table_id.slots - 1
    -- whose post it heard of, of that client it was told that it joined
    pub heard : (r k : ℕ) → IsMarked r k (work seat).heard → is_on r (told seat) ≡ true
