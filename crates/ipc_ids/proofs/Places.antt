-- The elements of a list by place, and the heap that counts some of the places.
use Rattle.std.proofs.Common.{◌≡◌, ℕ, zero, suc, ◌+◌, ◌<◌, ◌≤◌, Bool, false, cond, List, [], ◌∷◌, ◌++◌, length, set, get_or, refl, sym, ap, ◌∙◌, arith, Some, None}
use Rattle.std.specs.Prelude.{nat_eq, slice_get, count_by}
use Rattle.std.specs.Ordering.{is_lt, nat_cmp}
use Rattle.std.specs.declared.cmp.Reverse.{Reverse}
use Rattle.std.specs.BinaryHeap.{IsUpperBound}
use Rattle.std.specs.List.Sorted.{IsPermutation}
use Rattle.std.proofs.lemmas.List.Sums.{sum_by-cons, sum_by-set}
use Rattle.std.proofs.lemmas.List.Sorted.{sum_by_pushed, sum_by_popped}
use Rattle.std.proofs.lemmas.Bool.Decides.{nat_tests}
use Rattle.std.proofs.lemmas.Option.{get_or_from_slice_get, slice_get_within, slice_get_read, slice_get_past}
use Rattle.ipc_ids.specs.Slots.{lowest_first, count_of}
use Rattle.ipc_ids.proofs.Identifiers.{same_eq, apart_eq, by_eq}

-- one list is the other but for what stands at one place
abbrev pub IsWith : {X : Type 0} → List X → ℕ → X → List X → Type 0
IsWith xs k x ys = (q : ℕ) → slice_get ys q ≡ cond (nat_eq k q) (Some x) (slice_get xs q)

-- what an index reads
module _ {X : Type 0} (xs ys : List X) (n k : ℕ) (same : xs ≡ ys) (at : n ≡ k) where
  pub place_read : (x : X) → n < length xs → x ≡ get_or xs n x → slice_get ys k ≡ Some x
  place_read x h is = ap (λ p. slice_get ys p) (sym at) ∙ ap (λ zs. slice_get zs n) (sym same) ∙ slice_get_read xs (length xs) n x refl h is

  pub place_past : length xs ≤ n → slice_get ys k ≡ None
  place_past h = ap (λ p. slice_get ys p) (sym at) ∙ ap (λ zs. slice_get zs n) (sym same) ∙ slice_get_past xs n h

eq-suc : (k q : ℕ) → nat_eq (suc k) (suc q) ≡ nat_eq k q
eq-suc k q =
    by_eq k q
    (λ e. same_eq (suc k) (suc q) (omega arith) ∙ sym (same_eq k q e))
    (λ ne. apart_eq (suc k) (suc q) (λ e. ne (omega arith)) ∙ sym (apart_eq k q ne))

zero_suc : (q : ℕ) → nat_eq 0 (suc q) ≡ false
zero_suc q = apart_eq 0 (suc q) (λ e. absurd (omega arith))

suc_zero : (k : ℕ) → nat_eq (suc k) 0 ≡ false
suc_zero k = apart_eq (suc k) 0 (λ e. absurd (omega arith))

module _ {X : Type 0} where
  pub IsWith-set : (xs : List X) (k : ℕ) (x : X) → k < length xs → IsWith xs k x (set xs k x)
  IsWith-set [] k x h q = absurd (omega arith)
  IsWith-set (y ∷ ys) zero x h zero = refl
  IsWith-set (y ∷ ys) zero x h (suc q) = ap (λ b. cond b (Some x) (slice_get ys q)) (sym (zero_suc q))
  IsWith-set (y ∷ ys) (suc k) x h zero = ap (λ b. cond b (Some x) (Some y)) (sym (suc_zero k))
  IsWith-set (y ∷ ys) (suc k) x h (suc q) = IsWith-set ys k x (omega arith) q ∙ ap (λ b. cond b (Some x) (slice_get ys q)) (sym (eq-suc k q))

  pub IsWith-push : (xs : List X) (x : X) → IsWith xs (length xs) x (xs ++ x ∷ [])
  IsWith-push [] x zero = refl
  IsWith-push [] x (suc q) = ap (λ b. cond b (Some x) None) (sym (zero_suc q))
  IsWith-push (y ∷ ys) x zero = ap (λ b. cond b (Some x) (Some y)) (sym (suc_zero (length ys)))
  IsWith-push (y ∷ ys) x (suc q) = IsWith-push ys x q ∙ ap (λ b. cond b (Some x) (slice_get ys q)) (sym (eq-suc (length ys) q))

-- the count of those that pass, where one element changes
pub count-set : {X : Type 0} (p : X → Bool) (xs : List X) (k : ℕ) (x y : X) → slice_get xs k ≡ Some x → count_by p (set xs k y) + cond (p x) 1 0 ≡ count_by p xs + cond (p y) 1 0
count-set p xs k x y is =
    ap (λ d. count_by p (set xs k y) + cond (p d) 1 0) (sym (get_or_from_slice_get xs k x x is))
    ∙ sum_by-set (λ z. cond (p z) 1 0) xs k y x (slice_get_within xs k x is)

module _ (r : Reverse ℕ) (free rest : List (Reverse ℕ)) where
  pub count-popped : IsPermutation free (r ∷ rest) → (q : ℕ) → count_of q rest + cond (nat_eq r.0 q) 1 0 ≡ count_of q free
  count-popped moved q = sum_by_popped (λ x. cond (nat_eq x.0 q) 1 0) r free rest moved

  pub count-pushed : IsPermutation (r ∷ free) rest → (q : ℕ) → count_of q rest ≡ cond (nat_eq r.0 q) 1 0 + count_of q free
  count-pushed moved q = sum_by_pushed (λ x. cond (nat_eq x.0 q) 1 0) r free rest moved

pub count-head : (r : Reverse ℕ) (free : List (Reverse ℕ)) → 0 < length free → r ≡ get_or free 0 r → 1 ≤ count_of r.0 free
count-head r [] h is = absurd (omega arith)
count-head r (x ∷ free) h is =
    let one : ◌≡◌ {A = ℕ} (cond (nat_eq x.0 r.0) 1 0) 1 = ap (λ b. cond b 1 0) (same_eq x.0 r.0 (ap (λ (r : Reverse ℕ). r.0) (sym is))) in
    omega (arith, one, sum_by-cons (λ (y : Reverse ℕ). cond (nat_eq y.0 r.0) 1 0) x free)

not_below : (a b : ℕ) → is_lt (nat_cmp a b) ≡ false → b ≤ a
not_below a b e = grind (arith, nat_tests)

-- the top of the heap is no higher than a slot that stands in it
pub top_below : (r : Reverse ℕ) (free : List (Reverse ℕ)) (q : ℕ) → IsUpperBound lowest_first r free → 1 ≤ count_of q free → r.0 ≤ q
top_below r [] q bound h = absurd (omega arith)
top_below r (x ∷ free) q bound h =
    let split = sum_by-cons (λ (y : Reverse ℕ). cond (nat_eq y.0 q) 1 0) x free in
    by_eq x.0 q
    (λ e. let low : r.0 ≤ x.0 = not_below x.0 r.0 bound.0 in omega arith)
    (λ ne. let none : ◌≡◌ {A = ℕ} (cond (nat_eq x.0 q) 1 0) 0 = ap (λ b. cond b 1 0) (apart_eq x.0 q ne) in
    let more : 1 ≤ count_of q free = omega (arith, none, split) in top_below r free q bound.1 more)
