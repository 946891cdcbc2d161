-- Which message a receiver takes: the first of a list that is linked.
use Rattle.std.proofs.Common.{of_z, w64, int_le, int_lt, ◌≡◌, ℕ, Bool, true, false, cond, ℤ, pos, List, [], ◌∷◌, map, refl, sym, ap, subst, ◌∙◌, ◌⊎◌, ⊎_elim, inl, inr, Option, Some, None, is_some, IsSome, arith}
use Rattle.std.specs.List.{AllByRecursion, filter, fold, reduce}
use Rattle.std.specs.Option.{option_and_then}
use Rattle.std.specs.Int.{int_min}
use Rattle.std.specs.Ordering.{int_eq}
use Rattle.std.proofs.lemmas.Bool.{cases_Bool, true≢false}
use Rattle.std.proofs.lemmas.Int.{ints}
use Rattle.msg_queue.specs.declared.messages.Message.{Message}
use Rattle.msg_queue.specs.declared.nodes.Link.{Link}
use Rattle.msg_queue.specs.declared.nodes.Ends.{Ends}
use Rattle.msg_queue.specs.declared.types.Row.{Row}
use Rattle.msg_queue.specs.Messages.{first_of_least_type, first_of_type, is_wanted, least_type, magnitude, select}
use Rattle.msg_queue.specs.Queues.{ChoosesIn, Placed, messages_of}
use Rattle.msg_queue.specs.Links.{AreApart, IsChain, Linked, first_place, next_in, of_type, other_type, previous_in}
use Rattle.msg_queue.specs.Types.{IsLeast, ends_in}
use Rattle.msg_queue.proofs.Holding.{own_eq, same_type}
use Rattle.msg_queue.proofs.Placed.{chooses_first}

-- the first of a list that is linked
first_linked : (next previous : Option ℕ → Option ℕ) (t : ℤ) (at : Option ℕ) (ms : List Placed) → Linked next previous at (of_type t ms) → next at ≡ first_place (is_wanted t false) ms
first_linked next previous t at [] linked = linked.0
first_linked next previous t at (m ∷ ms) linked =
    ⊎_elim
    (λ (yes : int_eq m.message.mtype t ≡ true). let l : Linked next previous at (m ∷ of_type t ms) = rw yes at linked in rw yes l.0)
    (λ (no : int_eq m.message.mtype t ≡ false). let l : Linked next previous at (of_type t ms) = rw no at linked in rw no (first_linked next previous t at ms l))
    (cases_Bool (int_eq m.message.mtype t))

pub first_chain : (links : ℕ → Option Link) (ends : Ends) (t : ℤ) (ms : List Placed) → IsChain links ends (of_type t ms) → ends.first ≡ first_place (is_wanted t false) ms
first_chain links ends t ms chain = first_linked (next_in links ends) (previous_in links ends) t None ms chain

-- above 0
above : (t : ℤ) (x y z : Option ℕ) → int_lt (pos 0) t ≡ true → cond (int_eq t (pos 0)) x (cond (int_lt (pos 0) t) y z) ≡ y
above t x y z h = grind (arith, ints)

pub chooses_type : (links : ℕ → Option Link) (ends : Ends) (ms : List Placed) (t : ℤ) → int_lt (pos 0) t ≡ true → IsChain links ends (of_type t ms) → AreApart ms → ChoosesIn ms ends.first (select (messages_of ms) t false)
chooses_type links ends ms t h chain apart =
    subst (λ (o : Option ℕ). ChoosesIn ms ends.first o) (sym (above t _ _ _ h))
    (subst (λ (o : Option ℕ). ChoosesIn ms o (first_of_type (messages_of ms) t false)) (sym (first_chain links ends t ms chain)) (chooses_first (is_wanted t false) ms apart))

pub chooses_other : (ms : List Placed) (t : ℤ) → int_lt (pos 0) t ≡ true → AreApart ms → ChoosesIn ms (first_place (other_type t) ms) (select (messages_of ms) t true)
chooses_other ms t h apart = subst (λ (o : Option ℕ). ChoosesIn ms (first_place (other_type t) ms) o) (sym (above t _ _ _ h)) (chooses_first (other_type t) ms apart)

-- below 0: the least of numbers
module _ (z b : ℤ) where
  abbrev AreAbove : List ℤ → Type 0
  AreAbove ys = AllByRecursion (λ y. int_lt y z ≡ false) ys

  abbrev Has : List ℤ → Type 0
  Has [] = ⊥
  Has (y ∷ ys) = (y ≡ z) ⊎ Has ys

  keeps_min : (y : ℤ) → int_lt y z ≡ false → int_min z y ≡ z
  keeps_min y h = rw h refl

  min_kept : (ys : List ℤ) → AreAbove ys → fold int_min z (filter (λ y. int_le y b) ys) ≡ z
  min_kept [] all = refl
  min_kept (y ∷ ys) all =
      ⊎_elim
      (λ (yes : int_le y b ≡ true). rw yes (ap (λ (x : ℤ). fold int_min x (filter (λ y. int_le y b) ys)) (keeps_min y all.0) ∙ min_kept ys all.1))
      (λ (no : int_le y b ≡ false). rw no (min_kept ys all.1))
      (cases_Bool (int_le y b))

  min_above : (x y : ℤ) → int_lt x z ≡ false → int_lt y z ≡ false → int_lt (int_min x y) z ≡ false
  min_above x y h k =
      ⊎_elim (λ (yes : int_lt y x ≡ true). rw yes k) (λ (no : int_lt y x ≡ false). rw no h) (cases_Bool (int_lt y x))

  min_here : (x : ℤ) → int_lt x z ≡ false → int_min x z ≡ z
  min_here x h = grind (arith, ints)

  min_found : (x : ℤ) (ys : List ℤ) → int_lt x z ≡ false → AreAbove ys → Has ys → int_le z b ≡ true → fold int_min x (filter (λ y. int_le y b) ys) ≡ z
  min_found x [] h all has within = absurd has
  min_found x (y ∷ ys) h all has within =
      ⊎_elim
      (λ (here : y ≡ z).
      let yes : int_le y b ≡ true = ap (λ (v : ℤ). int_le v b) here ∙ within in
      rw yes (ap (λ (v : ℤ). fold int_min v (filter (λ y. int_le y b) ys)) (ap (int_min x) here ∙ min_here x h) ∙ min_kept ys all.1))
      (λ (later : Has ys).
      ⊎_elim
      (λ (yes : int_le y b ≡ true). rw yes (min_found (int_min x y) ys (min_above x y h all.0) all.1 later within))
      (λ (no : int_le y b ≡ false). rw no (min_found x ys h all.1 later within))
      (cases_Bool (int_le y b)))
      has

  least_found : (ys : List ℤ) → AreAbove ys → Has ys → int_le z b ≡ true → reduce int_min (filter (λ y. int_le y b) ys) ≡ Some z
  least_found [] all has within = absurd has
  least_found (y ∷ ys) all has within =
      ⊎_elim
      (λ (here : y ≡ z).
      let yes : int_le y b ≡ true = ap (λ (v : ℤ). int_le v b) here ∙ within in
      rw yes (ap (λ (v : ℤ). Some (fold int_min v (filter (λ y. int_le y b) ys))) here ∙ ap (λ (v : ℤ). Some v) (min_kept ys all.1)))
      (λ (later : Has ys).
      ⊎_elim
      (λ (yes : int_le y b ≡ true). rw yes (ap (λ (v : ℤ). Some v) (min_found y ys all.0 all.1 later within)))
      (λ (no : int_le y b ≡ false). rw no (least_found ys all.1 later within))
      (cases_Bool (int_le y b)))
      has

  past : (y : ℤ) → int_le z b ≡ false → int_lt y z ≡ false → int_le y b ≡ false
  past y h k = grind (arith, ints)

  least_past : (ys : List ℤ) → AreAbove ys → int_le z b ≡ false → reduce int_min (filter (λ y. int_le y b) ys) ≡ None
  least_past [] all h = refl
  least_past (y ∷ ys) all h = let no = past y h all.0 in rw no (least_past ys all.1 h)

  pub least_of : (ys : List ℤ) → AreAbove ys → Has ys → reduce int_min (filter (λ y. int_le y b) ys) ≡ cond (int_le z b) (Some z) None
  least_of ys all has =
      ⊎_elim
      (λ (yes : int_le z b ≡ true). rw yes (least_found ys all has yes))
      (λ (no : int_le z b ≡ false). rw no (least_past ys all no))
      (cases_Bool (int_le z b))

-- a list that has one of a type has a first of it
first_own : (m : Placed) (ms : List Placed) → IsSome (first_place (is_wanted m.message.mtype false) (m ∷ ms))
first_own m ms = let e = own_eq m.message.mtype in rw e refl

first_more : (t : ℤ) (m : Placed) (ms : List Placed) → IsSome (first_place (is_wanted t false) ms) → IsSome (first_place (is_wanted t false) (m ∷ ms))
first_more t m ms some =
    ⊎_elim (λ (yes : int_eq m.message.mtype t ≡ true). rw yes refl) (λ (no : int_eq m.message.mtype t ≡ false). rw no some) (cases_Bool (int_eq m.message.mtype t))

each_above : (z : ℤ) (ms : List Placed) → ((t : ℤ) → IsSome (first_place (is_wanted t false) ms) → int_lt t z ≡ false) → AreAbove z (pos 0) (map (λ (m : Message). m.mtype) (messages_of ms))
each_above z [] above = tt
each_above z (m ∷ ms) above = (above m.message.mtype (first_own m ms), each_above z ms (λ t some. above t (first_more t m ms some)))

has_first : (z : ℤ) (ms : List Placed) → IsSome (first_place (is_wanted z false) ms) → Has z (pos 0) (map (λ (m : Message). m.mtype) (messages_of ms))
has_first z [] some = absurd (true≢false (sym some))
has_first z (m ∷ ms) some =
    ⊎_elim
    (λ (yes : int_eq m.message.mtype z ≡ true). inl (same_type m.message.mtype z yes))
    (λ (no : int_eq m.message.mtype z ≡ false). let later : IsSome (first_place (is_wanted z false) ms) = rw no at some in inr (has_first z ms later))
    (cases_Bool (int_eq m.message.mtype z))

below : (t : ℤ) (x y z : Option ℕ) → int_eq t (pos 0) ≡ false → int_lt (pos 0) t ≡ false → cond (int_eq t (pos 0)) x (cond (int_lt (pos 0) t) y z) ≡ z
below t x y z h k = rw (h, k) refl

module _ (links : ℕ → Option Link) (rows : List Row) (ms : List Placed) (chains : (t : ℤ) → IsChain links (ends_in rows t) (of_type t ms)) (apart : AreApart ms) where
  firsts : (t : ℤ) → (ends_in rows t).first ≡ first_place (is_wanted t false) ms
  firsts t = first_chain links (ends_in rows t) t ms (chains t)

  least_there : (found : ℤ × Ends) → IsLeast rows found → (b : ℤ) → least_type (messages_of ms) b ≡ cond (int_le found.0 b) (Some found.0) None
  least_there found least b =
      least_of found.0 b (map (λ (m : Message). m.mtype) (messages_of ms))
      (each_above found.0 ms (λ t some. least.2 t (subst (λ (o : Option ℕ). IsSome o) (sym (firsts t)) some)))
      (has_first found.0 ms (subst (λ (o : Option ℕ). IsSome o) (firsts found.0) (subst (λ (e : Ends). IsSome e.first) (sym least.0) least.1)))

  pub chooses_least : (found : ℤ × Ends) → IsLeast rows found → (b : ℤ) → ChoosesIn ms (cond (int_le found.0 b) found.1.first None) (option_and_then (λ (least : ℤ). first_of_type (messages_of ms) least false) (least_type (messages_of ms) b))
  chooses_least found least b =
      subst (λ (o : Option ℤ). ChoosesIn ms (cond (int_le found.0 b) found.1.first None) (option_and_then (λ (least : ℤ). first_of_type (messages_of ms) least false) o)) (sym (least_there found least b)) (
      ⊎_elim
      (λ (yes : int_le found.0 b ≡ true). rw yes (
      subst (λ (o : Option ℕ). ChoosesIn ms o (first_of_type (messages_of ms) found.0 false)) (sym (ap (λ (e : Ends). e.first) (sym least.0) ∙ firsts found.0)) (chooses_first (is_wanted found.0 false) ms apart)
      ))
      (λ (no : int_le found.0 b ≡ false). rw no refl)
      (cases_Bool (int_le found.0 b))
      )

  pub chooses_none : ((t : ℤ) → (ends_in rows t).first ≡ None) → (b : ℤ) → option_and_then (λ (least : ℤ). first_of_type (messages_of ms) least false) (least_type (messages_of ms) b) ≡ None
  chooses_none none b = by ms (λ t. sym (firsts t) ∙ none t)
    where
      by : (ls : List Placed) → ((t : ℤ) → first_place (is_wanted t false) ls ≡ None) → option_and_then (λ (least : ℤ). first_of_type (messages_of ls) least false) (least_type (messages_of ls) b) ≡ None
      by [] gone = refl
      by (m ∷ ls) gone = absurd (true≢false (sym (first_own m ls) ∙ ap is_some (gone m.message.mtype)))

-- a number that isn't 0 in the machine
pub not_zero : (t : ℤ) → (of_z w64 t ≡ 0 → ⊥) → int_eq t (pos 0) ≡ false
not_zero t other = by (int_eq t (pos 0)) refl
  where
    by : (b : Bool) → int_eq t (pos 0) ≡ b → int_eq t (pos 0) ≡ false
    by true is = absurd (other (ap (of_z w64) (same_type t (pos 0) is)))
    by false is = is

pub chooses_below : (links : ℕ → Option Link) (rows : List Row) (ms : List Placed) → ((t : ℤ) → IsChain links (ends_in rows t) (of_type t ms)) → AreApart ms → (t : ℤ) (except : Bool) → int_eq t (pos 0) ≡ false → int_lt (pos 0) t ≡ false
    → (found : ℤ × Ends) → IsLeast rows found → (b : Bool) → int_le found.0 (pos (magnitude t)) ≡ b → ChoosesIn ms (cond b found.1.first None) (select (messages_of ms) t except)
chooses_below links rows ms chains apart t except other under found least b is =
    subst (λ (o : Option ℕ). ChoosesIn ms (cond b found.1.first None) o) (sym (below t _ _ _ other under))
    (subst (λ (x : Bool). ChoosesIn ms (cond x found.1.first None) (first_of_least_type (messages_of ms) (pos (magnitude t)))) is (chooses_least links rows ms chains apart found least (pos (magnitude t))))

pub chooses_nothing : (links : ℕ → Option Link) (rows : List Row) (ms : List Placed) → ((t : ℤ) → IsChain links (ends_in rows t) (of_type t ms)) → AreApart ms → (t : ℤ) (except : Bool) → int_eq t (pos 0) ≡ false → int_lt (pos 0) t ≡ false
    → ((u : ℤ) → (ends_in rows u).first ≡ None) → select (messages_of ms) t except ≡ None
chooses_nothing links rows ms chains apart t except other under none =
    below t _ _ _ other under ∙ chooses_none links rows ms chains apart none (pos (magnitude t))
