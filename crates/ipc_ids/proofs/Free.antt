-- The heap of a table holds its vacant slots.
use Rattle.std.proofs.Common.{◌≡◌, ℕ, ◌<◌, ◌≤◌, Bool, true, false, cond, List, ◌∷◌, length, get_or, refl, sym, ap, ◌∙◌, subst, arith, Option, Some, None, ⊎_elim}
use Rattle.std.specs.Prelude.{nat_eq, slice_get, count_by}
use Rattle.std.specs.declared.cmp.Reverse.{Reverse}
use Rattle.std.specs.BinaryHeap.{IsUpperBound, IsHeap}
use Rattle.std.specs.List.Sorted.{IsPermutation}
use Rattle.std.proofs.lemmas.Bool.{cases_Bool, true≢false}
use Rattle.std.proofs.lemmas.List.Sums.{get_or-le-sum_by}
use Rattle.std.proofs.lemmas.Option.{get_or_from_slice_get, slice_get_within, same_Some}
use Rattle.ipc_ids.specs.Slots.{is_vacant, is_vacant_at, lowest_first, count_of, IsSoundSlot, IsLayout}
use Rattle.ipc_ids.specs.declared.slots.Slot.{Slot}
use Rattle.ipc_ids.specs.declared.slots.Slot.TheVariants.{Held, Vacant, Retired}
use Rattle.ipc_ids.proofs.Identifiers.{same_eq, apart_eq, by_eq}
use Rattle.ipc_ids.proofs.Places.{IsWith, count-head, count-popped, top_below}

abbrev pub IsVacantSlot : {X : Type 0} → Option (Slot X) → Type 0
IsVacantSlot o = (seq : ℕ) × (o ≡ Some (Vacant seq))

vacant_slot : {X : Type 0} (o : Option (Slot X)) → is_vacant_at o ≡ true → IsVacantSlot o
vacant_slot None e = absurd (true≢false (sym e))
vacant_slot (Some (Held seq x)) e = absurd (true≢false (sym e))
vacant_slot (Some (Vacant seq)) e = (seq, refl)
vacant_slot (Some Retired) e = absurd (true≢false (sym e))

counted_true : (b : Bool) → 1 ≤ cond b 1 0 → b ≡ true
counted_true true h = refl
counted_true false h = absurd (omega arith)

module _ {X : Type 0} {slots first : ℕ} {es : List (Slot X)} {free : List (Reverse ℕ)} {len capacity : ℕ} (i : IsLayout slots first es free len capacity) where
  -- what stands in the heap is a vacant slot
  pub freed_slot : (k : ℕ) → 1 ≤ count_of k free → IsVacantSlot (slice_get es k)
  freed_slot k h = vacant_slot (slice_get es k) (counted_true (is_vacant_at (slice_get es k)) (omega (arith, i.places k)))

  pub top_slot : (r : Reverse ℕ) → 0 < length free → r ≡ get_or free 0 r → IsVacantSlot (slice_get es r.0)
  top_slot r some is = freed_slot r.0 (count-head r free some is)

  pub popped_slot : (r : Reverse ℕ) (rest : List (Reverse ℕ)) → IsPermutation free (r ∷ rest) → IsVacantSlot (slice_get es r.0)
  popped_slot r rest moved =
      let one : ◌≡◌ {A = ℕ} (cond (nat_eq r.0 r.0) 1 0) 1 = ap (λ b. cond b 1 0) (same_eq r.0 r.0 refl) in
      freed_slot r.0 (omega (arith, one, count-popped r free rest moved r.0))

  -- no slot below the top of the heap is vacant
  pub none_below_top : (r : Reverse ℕ) → IsUpperBound lowest_first r free → (j : ℕ) → j < r.0 → is_vacant_at (slice_get es j) ≡ false
  none_below_top r bound j below =
      ⊎_elim
      (λ (t : is_vacant_at (slice_get es j) ≡ true).
      let one : ◌≡◌ {A = ℕ} (cond (is_vacant_at (slice_get es j)) 1 0) 1 = ap (λ b. cond b 1 0) t in
      let low = top_below r free j bound (omega (arith, i.places j, one)) in absurd (omega (arith, low, below)))
      (λ (f : is_vacant_at (slice_get es j) ≡ false). f)
      (cases_Bool (is_vacant_at (slice_get es j)))

  -- where the heap is empty, no slot is vacant
  pub none_of_empty : len ≡ 0 → (j : ℕ) → is_vacant_at (slice_get es j) ≡ false
  none_of_empty empty j =
      ⊎_elim
      (λ (t : is_vacant_at (slice_get es j) ≡ true).
      let found = vacant_slot (slice_get es j) t in
      let le = get_or-le-sum_by (λ e. cond (is_vacant e) 1 0) es j (Vacant found.0) (slice_get_within es j (Vacant found.0) found.1) in
      let one : ◌≡◌ {A = ℕ} (cond (is_vacant (get_or es j (Vacant found.0))) 1 0) 1 = ap (λ e. cond (is_vacant e) 1 0) (get_or_from_slice_get es j (Vacant found.0) (Vacant found.0) found.1) in
      absurd (omega (arith, le, one, empty, i.counted)))
      (λ (f : is_vacant_at (slice_get es j) ≡ false). f)
      (cases_Bool (is_vacant_at (slice_get es j)))

  -- one slot changes, and the heap with it
  pub layout-with : {fs : List (Slot X)} {free' : List (Reverse ℕ)} {len' capacity' : ℕ} (k : ℕ) (e : Slot X) → IsWith es k e fs → length fs ≤ slots → length fs ≤ capacity'
      → IsSoundSlot first e → IsHeap lowest_first free' → ((q : ℕ) → count_of q free' ≡ cond (nat_eq k q) (cond (is_vacant e) 1 0) (count_of q free))
      → len' ≡ count_by is_vacant fs → IsLayout slots first fs free' len' capacity'
  layout-with {fs = fs} {free' = free'} k e is within room sound ordered counts counted = record {
    few = i.few;
    small = i.small;
    within = within;
    each = each;
    ordered = ordered;
    places = places;
    counted = counted;
    room = room;
  }
    where
      each : (q : ℕ) (x : Slot X) → slice_get fs q ≡ Some x → IsSoundSlot first x
      each q x at =
          by_eq k q
          (λ here. let same : Some e ≡ Some x = ap (λ b. cond b (Some e) (slice_get es q)) (sym (same_eq k q here)) ∙ sym (is q) ∙ at in
          subst (λ (y : Slot X). IsSoundSlot first y) (same_Some e x same) sound)
          (λ apart. i.each q x (ap (λ b. cond b (Some e) (slice_get es q)) (sym (apart_eq k q apart)) ∙ sym (is q) ∙ at))

      places : (q : ℕ) → count_of q free' ≡ cond (is_vacant_at (slice_get fs q)) 1 0
      places q =
          counts q
          ∙ by_eq k q
          (λ here. ap (λ b. cond b (cond (is_vacant e) 1 0) (count_of q free)) (same_eq k q here)
          ∙ ap (λ o. cond (is_vacant_at o) 1 0) (sym (is q ∙ ap (λ b. cond b (Some e) (slice_get es q)) (same_eq k q here))))
          (λ apart. ap (λ b. cond b (cond (is_vacant e) 1 0) (count_of q free)) (apart_eq k q apart) ∙ i.places q
          ∙ ap (λ o. cond (is_vacant_at o) 1 0) (sym (is q ∙ ap (λ b. cond b (Some e) (slice_get es q)) (apart_eq k q apart))))
