-- The rule of the table.
use Rattle.std.specs.Prelude.{◌≡◌, ◌≢◌, ◌⊎◌, ℕ, ◌+◌, ◌<◌, List, [], ◌∷◌, ◌++◌, map, length, slice_set, replicate}
use mathlib.Core.Option.{Option, some}
use lib.ListN.{get_elem?}
use Rattle.atomic_table.specs.Table.{State, Me, rest}
use Rattle.pub_rule.specs.declared.walk.Walk.{Walk}
use Rattle.pub_rule.specs.declared.walk.View.{View}
use Rattle.pub_rule.specs.declared.walk.Role.{Role}
use Rattle.pub_rule.specs.declared.walk.Role.TheVariants.{Maker}
use Rattle.pub_rule.specs.declared.served.Slot.{Slot}
use Rattle.pub_rule.specs.declared.served.Slot.TheVariants as slots
use Rattle.pub_rule.specs.Words.{head_word, next_word}
use Rattle.pub_rule.specs.Walk.{Walks}

-- the words that the list uses
abbrev pub IsListWord : ℕ → ℕ → Type 0
IsListWord n i = (i ≡ head_word) ⊎ ((q : ℕ) × (q < n) × (i ≡ next_word q))

-- the half of a view that is about the list, and the other
abbrev pub walk_of : {W : Type 0} → View W → Walk
walk_of v = v.walk

abbrev pub work_of : {W : Type 0} → View W → W
work_of v = v.work

-- A seat of the kit's table is its view and the slots in its hand, each with its number, the last that came in front.
module _ {T W : Type 0} where
  abbrev pub view : Me T (View W) → View W
  view m = m.0

  abbrev pub walk : Me T (View W) → Walk
  walk m = (view m).walk

  abbrev pub work : Me T (View W) → W
  work m = (view m).work

  abbrev pub hand : Me T (View W) → List (ℕ × T)
  hand m = m.1

  -- the slot r, with x in it, is in front
  abbrev pub HasInFront : ℕ → T → Me T (View W) → Type 0
  HasInFront r x m = hand m ≡ (r, x) ∷ rest (hand m)

-- what a step tells by the number k that it found: one thing where that is x, another where it isn't
pub record ByWord (x k : ℕ) (Hit Miss : Type 0) : Type 0 where
  pub hit : k ≡ x → Hit
  pub miss : k ≢ x → Miss

module _ {T W : Type 0} where
  module _ (n : ℕ) (serves : List ℕ → List (Option T) → List W → Type 0) where
    -- what the words of the list are doesn't matter to it
    abbrev pub IsIndependent : Type 0
    IsIndependent = (words : List ℕ) (homes : List (Option T)) (works : List W) (i x : ℕ) → IsListWord n i
        → serves words homes works → serves (slice_set words i x) homes works

    -- there is a slot for each client and one more
    abbrev pub HasSlots : Type 0
    HasSlots = (words : List ℕ) (homes : List (Option T)) (works : List W) → serves words homes works
        → length homes ≡ n + 1

    -- it lets a seat be split
    abbrev pub LetsSplit : ℕ → W → W → W → Type 0
    LetsSplit id v left right = (words : List ℕ) (homes : List (Option T)) (works : List W) → serves words homes works
        → get_elem? works id ≡ some v → serves words homes (slice_set works id left ++ right ∷ [])

    -- it lets two seats be merged
    abbrev pub LetsMerge : ℕ → W → ℕ → W → W → W → Type 0
    LetsMerge id v other w both spent = (words : List ℕ) (homes : List (Option T)) (works : List W)
        → serves words homes works → get_elem? works id ≡ some v → ¬ (other ≡ id)
        → get_elem? (slice_set works id both) other ≡ some w
        → serves words homes (slice_set (slice_set works id both) other spent)

    -- The rule: the list is as it must be, and so is what is served
    pub record Ruled (s : State T (View W)) : Type 0 where
      pub walks : Walks n s.words (map walk_of s.views)
      pub works : serves s.words s.homes (map work_of s.views)

-- the slots of n clients, which are empty, and that of the state
abbrev pub slots_of : {C R S : Type 0} → ℕ → S → List (Slot C R S)
slots_of n state = replicate n slots.Empty ++ slots.State state ∷ []

-- a view of the list that knows nothing but its role
abbrev pub blank : Role → Walk
blank role = record { role = role; list = []; known = []; stored = 0; tries = 0 }

-- the first seat's view at the start
abbrev pub opening_view : {W : Type 0} → W → View W
opening_view w = record { walk = blank (Maker 0); work = w }
