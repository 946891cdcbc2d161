-- A mode of nine bits is four octal digits.
use Rattle.std.proofs.Common.{◌≡◌, ℕ, zero, suc, ◌+◌, ◌/◌, ◌%◌, ◌<◌, Bool, true, false, arith, List, [], ◌∷◌, refl, subst, sym}
use Rattle.std.specs.Prelude.{◌==◌, ◌&&◌}
use Rattle.perm_words.specs.ObjectText.{mode_text, octal_digit}
use Rattle.std.specs.Fmt.{char_count, digits, padded_integral}

abbrev pub four_digits : ℕ → List ℕ
four_digits n = 48 ∷ octal_digit (n / 64) ∷ octal_digit (n / 8) ∷ octal_digit n ∷ []

-- each of the 512 is tried

left : (a b : Bool) → (a && b) ≡ true → a ≡ true
left true b h = refl
left false b h = h

right : (a b : Bool) → (a && b) ≡ true → b ≡ true
right true b h = h
right false b h = absurd (let e : false ≡ true = h in cc)

same : (x y : ℕ) → (x == y) ≡ true → x ≡ y
same x y h = grind arith

abbrev are_alike : List ℕ → List ℕ → Bool
are_alike [] [] = true
are_alike [] (y ∷ ys) = false
are_alike (x ∷ xs) [] = false
are_alike (x ∷ xs) (y ∷ ys) = (x == y) && are_alike xs ys

alike : (xs ys : List ℕ) → are_alike xs ys ≡ true → xs ≡ ys
alike [] [] h = refl
alike [] (y ∷ ys) h = absurd (let e : false ≡ true = h in cc)
alike (x ∷ xs) [] h = absurd (let e : false ≡ true = h in cc)
alike (x ∷ xs) (y ∷ ys) h =
    (λ i. same x y (left (x == y) (are_alike xs ys) h) i ∷ alike xs ys (right (x == y) (are_alike xs ys) h) i)

abbrev all_below : (ℕ → Bool) → ℕ → Bool
all_below p zero = true
all_below p (suc k) = p k && all_below p k

none_below : (n : ℕ) → n < 0 → ⊥
none_below n h = grind arith

one_of : (p : ℕ → Bool) (k n : ℕ) (is_last : Bool) → (n == k) ≡ is_last → p k ≡ true → (n < k → p n ≡ true) → n < suc k → p n ≡ true
one_of p k n true e last others h = subst (λ (m : ℕ). p m ≡ true) (sym (same n k e)) last
one_of p k n false e last others h = others (grind arith)

at : (p : ℕ → Bool) (k n : ℕ) → all_below p k ≡ true → n < k → p n ≡ true
at p zero n all h = absurd (none_below n h)
at p (suc k) n all h = one_of p k n (n == k) refl (left (p k) (all_below p k) all) (at p k n (right (p k) (all_below p k) all)) h

abbrev is_octal : ℕ → Bool
is_octal n = are_alike (mode_text n) (four_digits n)

each : all_below is_octal 512 ≡ true
unfolding char_count digits padded_integral mode_text
each = refl

pub mode_is : (n : ℕ) → n < 512 → mode_text n ≡ four_digits n
mode_is n h = alike (mode_text n) (four_digits n) (at is_octal 512 n each h)
