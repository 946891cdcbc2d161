-- What each kind of step on the list tells the seat that takes it. The seat was m before the step st, which found the
-- number k in its word, and is m' after it.
use Rattle.std.specs.Prelude.{◌≡◌, ◌⊎◌, ℕ, ◌+◌, ◌-◌, ◌≤◌, List, [], ◌∷◌, ◌++◌, length}
use Rattle.atomic_table.specs.Table.{Step, Me}
use Rattle.pub_rule.specs.declared.walk.Walk.{Walk}
use Rattle.pub_rule.specs.declared.walk.View.{View}
use Rattle.pub_rule.specs.declared.walk.Role.{Role}
use Rattle.pub_rule.specs.declared.walk.Role.TheVariants.{Spent, Maker, Fresh, Joined, Token}
use Rattle.pub_rule.specs.Words.{next_word}
use Rattle.pub_rule.specs.Lists.{IsOn, IsListOf, EndsWith, link_to, after}
use Rattle.pub_rule.specs.Rule.{blank, view, walk, hand, ByWord}

-- the list of the view w was seen among n clients, and v was the view before
pub record Saw (n : ℕ) (v w : Walk) : Type 0 where
  pub clients : IsListOf n w.list
  pub grown : EndsWith w.list v.list
  pub tried : w.tries ≤ length w.list
  pub told : (c : ℕ) → IsOn c v.known → IsOn c w.list
  pub joined : (c : ℕ) → v.role ≡ Joined c → IsOn c w.list
  pub unjoined : (c : ℕ) → w.role ≡ Fresh c → ¬ IsOn c w.list

-- the seat knows that client c joined
abbrev pub IsKnown : ℕ → Walk → Type 0
IsKnown c v = IsOn c v.list ⊎ IsOn c v.known

abbrev pub client_of : Role → ℕ
client_of (Fresh c) = c
client_of (Joined c) = c
client_of _ = 0

abbrev pub made_of : Role → ℕ
made_of (Maker k) = k
made_of _ = 0

abbrev pub with_list : List ℕ → Walk → Walk
with_list list v = record v { list = list }

abbrev pub with_stored : ℕ → Walk → Walk
with_stored x v = record v { stored = x }

-- the head was another one: it led to this list
abbrev pub failed : List ℕ → Walk → Walk
failed list v = record v { list = list; tries = v.tries + 1 }

-- the client stands before the list that it loaded
abbrev pub joined : Walk → Walk
joined v = record v { role = Joined (client_of v.role); list = client_of v.role ∷ v.list; tries = v.tries + 1 }

-- the list's half of a view is replaced
abbrev pub with_walk : {W : Type 0} → Walk → View W → View W
with_walk w v = record v { walk = w }

-- the seat knows this of the list, and has what it had in its hand
abbrev pub walks_on : {T W : Type 0} → Walk → Me T (View W) → Me T (View W)
walks_on w m = (with_walk w (view m), hand m)

-- How a seat m of a list of n clients is left by a step that found the word k, and which list its holder then knows.
module _ {T W : Type 0} (m m' : Me T (View W)) (n : ℕ) where
  -- the head led to this list, which the seat then has, and all that it knew is true of it
  pub record Loads (k : ℕ) (after_load : List ℕ → Walk → Walk) : Type 0 where
    pub list : List ℕ
    pub left : m' ≡ walks_on (after_load list (walk m)) m
    pub link : k ≡ link_to list
    pub saw : Saw n (walk m) (after_load list (walk m))

  -- the client stands at the head, before the list that it loaded
  pub record EntersList : Type 0 where
    pub left : m' ≡ walks_on (joined (walk m)) m
    pub saw : Saw n (walk m) (joined (walk m))

  -- the next word of client c led to the rest of the list: the list that was loaded, or else that from c on is seen
  pub record LoadsFrom (k c : ℕ) : Type 0 where
    pub list : List ℕ
    pub left : m' ≡ walks_on (with_list list (walk m)) m
    pub link : k ≡ link_to (after c list)
    pub on : IsOn c list
    pub same : IsOn c (walk m).list → list ≡ (walk m).list
    pub clients : IsListOf n list
    pub grown : EndsWith list (walk m).list

-- What each kind of step on the list tells.
module _ {T W : Type 0} (st : Step T) (m : Me T (View W)) (k : ℕ) (m' : Me T (View W)) where
  -- load head
  abbrev pub head_loaded : Type 0
  head_loaded = Loads m m' (st.slots - 1) k with_list

  -- store next
  abbrev pub next_stored : Type 0
  next_stored = m' ≡ walks_on (with_stored st.first (walk m)) m

  -- exchange head: the client joined, or the head was another one
  abbrev pub head_exchanged : Type 0
  head_exchanged = ByWord st.first k (EntersList m m' (st.slots - 1)) (Loads m m' (st.slots - 1) k failed)

  -- load next, of a client that is known to have joined
  abbrev pub next_loaded : Type 0
  next_loaded = (c : ℕ) → st.word ≡ next_word c → IsKnown c (walk m) → LoadsFrom m m' (st.slots - 1) k c

-- split: the first seat makes the next client's
abbrev pub next_maker : Walk → Walk
next_maker v = record v { role = Maker (made_of v.role + 1) }

abbrev pub newcomer : Walk → Walk
newcomer v = blank (Fresh (made_of v.role))

-- split: a client tells that it joined, and knows what it knew
abbrev pub token : Walk → Walk
token v = record (blank Token) { known = client_of v.role ∷ [] }

-- merge: a seat takes in what a token tells
abbrev pub learned : Walk → Walk → Walk
learned v w = record v { known = w.known ++ v.known }

abbrev pub spent : Walk
spent = blank Spent
