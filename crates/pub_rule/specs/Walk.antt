-- What a seat knows of the list, and what is true of the list and of all seats between any two steps.
use Rattle.std.specs.Prelude.{◌≡◌, ℕ, ◌<◌, ◌≤◌, List, [], ◌∷◌, length, slice_index}
use mathlib.Core.Option.{some}
use lib.ListN.{get_elem?}
use Rattle.pub_rule.specs.declared.walk.Walk.{Walk}
use Rattle.pub_rule.specs.declared.walk.Role.{Role}
use Rattle.pub_rule.specs.declared.walk.Role.TheVariants.{Spent, Maker, Fresh, Joined}
use Rattle.pub_rule.specs.Words.{head_word, next_word, word_count}
use Rattle.pub_rule.specs.Lists.{IsOn, Distinct, EndsWith, link_to}

-- Who has joined: the clients of the list, from the head on; and how many clients have a seat, and the seat of each.
pub record Roll : Type 0 where
  pub list : List ℕ
  pub made : ℕ
  pub seat : ℕ → ℕ

-- the clients of the list, each made, and each client's next word leads to the rest
abbrev pub Linked : ℕ → List ℕ → List ℕ → Type 0
Linked made words [] = Unit {0}
Linked made words (c ∷ rest) = (c < made) × (slice_index words (next_word c) ≡ link_to rest) × Linked made words rest

-- client r is on the list exactly if its seat has joined; a seat that was merged into another tells nothing
abbrev pub IsOnByRole : ℕ → List ℕ → Role → Type 0
IsOnByRole r list (Fresh c) = (c ≡ r) × ¬ IsOn r list
IsOnByRole r list (Joined c) = (c ≡ r) × IsOn r list
IsOnByRole r list Spent = Unit {0}
IsOnByRole r list _ = ⊥

-- client r has the seat j, and is on the list exactly if it has joined
abbrev pub Stands : List ℕ → List Walk → ℕ → ℕ → Type 0
Stands list views r j = (v : Walk) × (get_elem? views j ≡ some v) × IsOnByRole r list v.role

-- what the role of the seat j tells, if its next word was last found or made to be `stored`
abbrev pub IsRole : Roll → List ℕ → ℕ → ℕ → Role → Type 0
IsRole roll words j stored (Maker k) = (j ≡ 0) × (k ≡ roll.made)
IsRole roll words j stored (Fresh c) =
    (c < roll.made) × (roll.seat c ≡ j) × (slice_index words (next_word c) ≡ stored)
IsRole roll words j stored (Joined c) = (c < roll.made) × (roll.seat c ≡ j)
IsRole roll words j stored _ = Unit {0}

-- what the seat j knows is true
pub record Knows (roll : Roll) (words : List ℕ) (j : ℕ) (v : Walk) : Type 0 where
  pub role : IsRole roll words j v.stored v.role
  -- the list as it was loaded is the end of the list
  pub loaded : EndsWith roll.list v.list
  -- and has at least as many clients as the head was tried
  pub tried : v.tries ≤ length v.list
  -- who is known to have joined is on the list
  pub told : (c : ℕ) → IsOn c v.known → IsOn c roll.list

pub record Walks (n : ℕ) (words : List ℕ) (views : List Walk) : Type 0 where
  pub roll : Roll
  pub wide : length words ≡ word_count n
  pub few : roll.made ≤ n
  pub head : slice_index words head_word ≡ link_to roll.list
  pub linked : Linked roll.made words roll.list
  pub distinct : Distinct roll.list
  pub unmade : (r : ℕ) → roll.made ≤ r → r < n → slice_index words (next_word r) ≡ 0
  pub each_client : (r : ℕ) → r < roll.made → Stands roll.list views r (roll.seat r)
  pub each_seat : (j : ℕ) (v : Walk) → get_elem? views j ≡ some v → Knows roll words j v
