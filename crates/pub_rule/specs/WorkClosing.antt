-- The close: a seat of no client takes in each client's seat, and keeps what they told; at the end the state is at
-- home.
use Rattle.std.specs.Prelude.{◌≡◌, ◌⊎◌, ℕ, false, ◌<◌, ◌≤◌, List, [], ◌∷◌, ◌++◌, length}
use mathlib.Core.Option.{Option, some}
use lib.ListN.{get_elem?}
use Rattle.atomic_table.specs.Table.{State, Me, Joins, Enters}
use Rattle.pub_rule.specs.declared.served.Served.{Ghosts}
use Rattle.pub_rule.specs.declared.walk.View.{View}
use Rattle.pub_rule.specs.declared.work.Work.{Work}
use Rattle.pub_rule.specs.declared.work.Closed.{Closed}
use Rattle.pub_rule.specs.declared.work.Stage.TheVariants.{Spent, Asking}
use Rattle.pub_rule.specs.declared.served.Slot.{Slot}
use Rattle.pub_rule.specs.declared.served.Slot.TheVariants as slots
use Rattle.pub_rule.specs.Lists.{IsOn}
use Rattle.pub_rule.specs.Rule.{Ruled}
use Rattle.pub_rule.specs.Work.{GoesOn, IsAtHome, clients_of, IsAmong, Serves}
use Rattle.pub_rule.specs.WorkSplits.{owner_of, view_spent}

-- What a client tells as it is handed in, and when it is true of the history at the end.
module _ {E C R : Type 0} where
  -- what a client's seat tells as it is merged
  abbrev pub last_told : Work E C R → Closed E C R
  last_told w = record {
    client = owner_of w.stage;
    stage = w.stage;
    seen = w.seen;
    entered = w.entered;
    got = w.got;
    begun = w.begun;
    met = w.met;
  }

  -- merge: the seat that closes keeps what the other told
  abbrev pub closing : Work E C R → Work E C R → Work E C R
  closing v w = record v { closed = last_told w ∷ v.closed }

  abbrev pub view_closing : View (Work E C R) → View (Work E C R) → View (Work E C R)
  view_closing v w = record { walk = v.walk; work = closing v.work w.work }

  -- what a client told, by the history at the end: its calls entered and replies got are its calls and replies, but
  -- that a call in flight may have been entered and answered
  pub record IsTrueOf (own : List E → ℕ → List C) (replies : List E → ℕ → List R) (h : List E)
      (closed : List (Closed E C R)) (c : Closed E C R) : Type 0 where
    pub saw : GoesOn c.seen h
    pub calls : (own h c.client ≡ c.entered)
        ⊎ ((k : C) × (c.stage ≡ Asking c.client k) × (own h c.client ≡ c.entered ++ k ∷ []))
    pub answers : (replies h c.client ≡ c.got)
        ⊎ ((k : C) × (x : R) × (c.stage ≡ Asking c.client k) × (replies h c.client ≡ c.got ++ x ∷ [])
        × (own h c.client ≡ c.entered ++ k ∷ []))
    -- who was found to combine told that it began to
    pub met : (r : ℕ) → IsOn r c.met → (b : Closed E C R) × IsAmong b closed × (b.client ≡ r) × (1 ≤ b.begun)

-- a new seat knows nothing, and has nothing in its hands
abbrev pub has_entered : {E C R S : Type 0} → Me (Slot C R S) (View (Work E C R)) → Type 0
has_entered m = m ≡ (view_spent, [])

-- The laws of the close.
module _ {S E C R : Type 0} (served : Ghosts S E C R) (n : ℕ) where
  -- each client told, and the state lies at home, as does each client's slot
  pub record IsClosed (homes : List (Option (Slot C R S))) (closed : List (Closed E C R)) : Type 0 where
    pub state : S
    pub home : get_elem? homes n ≡ some (some (slots.State state))
    pub is_legal : served.legal (served.history state)
    pub every : (r : ℕ) → r < n → IsOn r (clients_of closed)
    pub told : (c : Closed E C R) → IsAmong c closed
        → IsTrueOf served.own served.replies (served.history state) closed c
    pub slot : (r : ℕ) → r < n → (y : Slot C R S) × (get_elem? homes r ≡ some (some y))

  -- a new seat of no client, as the list is closed; whatever word it reads, it learns nothing
  abbrev pub KeptByEnter : Type 0
  KeptByEnter = (size word : ℕ) → Enters (Ruled n (Serves served n)) size word (λ _ w. has_entered {S = S} (w, []))

  -- the seat of a client that doesn't combine, and has its slot at home, is merged into one of no client
  abbrev pub KeptByClose : Type 0
  KeptByClose = (id other : ℕ) (v w : View (Work E C R)) (spent_is : v.work.stage ≡ Spent)
      (home : IsAtHome w.work.stage) (waits : w.work.holds ≡ false)
      → Joins (Ruled n (Serves served n)) id v other w (view_closing v w) view_spent

  -- where n clients told, all is at home
  abbrev pub KnownAtEnd : Type 0
  KnownAtEnd = (s : State (Slot C R S) (View (Work E C R))) (id : ℕ) (v : View (Work E C R))
      (ruled : Ruled n (Serves served n) s) (at : get_elem? s.views id ≡ some v) (spent_is : v.work.stage ≡ Spent)
      (full : length v.work.closed ≡ n) → IsClosed s.homes v.work.closed
