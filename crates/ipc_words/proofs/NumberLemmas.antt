-- The number that digits write, digit by digit.
use Rattle.std.proofs.Common.{◌≡◌, ℕ, ◌+◌, ◌*◌, ◌<◌, ◌≤◌, Bool, true, false, cond, List, length, get_or, take, nat_lt, arith, refl}
use Rattle.std.proofs.lemmas.Bool.Decides.{nat_tests}
use Rattle.std.proofs.lemmas.List.Folds.{list_all_more}
use Rattle.std.proofs.lemmas.Int.Digits.{digits_value_more}
use Rattle.std.proofs.lemmas.Str.Parse.{digits_value-take-le}
use Rattle.std.specs.Char.{digit_value}
use Rattle.std.specs.List.{list_all}
use Rattle.std.specs.Option.{option_and_then}
use Rattle.std.specs.Prelude.{Some, None}
use Rattle.std.specs.Str.Parse.{digits_value}
use Rattle.ipc_words.specs.Numbers.{at_most, numeral}

abbrev pub are_digits : ℕ → List ℕ → Bool
are_digits base digits = list_all (λ c. nat_lt (digit_value c) base) digits

above_most : (most n : ℕ) → most < n → at_most most n ≡ None
above_most most n h = grind (arith, nat_tests)

too_large_if : (b : Bool) (most n : ℕ) → most < n → option_and_then (at_most most) (cond b (Some n) None) ≡ None
too_large_if true most n h = above_most most n h
too_large_if false most n h = refl

pub too_large : (base most : ℕ) (digits : List ℕ) (i : ℕ) → 1 ≤ base → most < digits_value base (take i digits) → option_and_then (at_most most) (numeral base digits) ≡ None
too_large base most digits i h k =
    let le : digits_value base (take i digits) ≤ digits_value base digits = digits_value-take-le base digits i h in
    too_large_if (are_digits base digits) most (digits_value base digits) (omega arith)

-- one more digit makes it too large
pub too_large_next : (base most value digit : ℕ) (digits : List ℕ) (i : ℕ) → 1 ≤ base → i < length digits → value ≡ digits_value base (take i digits) → digit ≡ digit_value (get_or digits i 0) → most < value * base + digit →
    option_and_then (at_most most) (numeral base digits) ≡ None
too_large_next base most value digit digits i h l e k more =
    too_large base most digits (i + 1) h (rw (digits_value_more base digits i l, ← e, ← k) more)

-- one more digit belongs to the number
pub value_next : (base value digit : ℕ) (digits : List ℕ) (i : ℕ) → i < length digits → value ≡ digits_value base (take i digits) → digit ≡ digit_value (get_or digits i 0) → value * base + digit ≡ digits_value base (take (i + 1) digits)
value_next base value digit digits i l e k = rw (digits_value_more base digits i l, ← e, ← k) refl

pub are_digits_next : (base : ℕ) (digits : List ℕ) (i : ℕ) → i < length digits → are_digits base (take i digits) ≡ true → digit_value (get_or digits i 0) < base → are_digits base (take (i + 1) digits) ≡ true
are_digits_next base digits i l e k =
    let t : nat_lt (digit_value (get_or digits i 0)) base ≡ true = grind (arith, nat_tests) in
    rw (list_all_more (λ c. nat_lt (digit_value c) base) digits i 0 l, e, t) refl
