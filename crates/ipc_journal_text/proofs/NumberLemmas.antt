-- Numbers are read as they are written.
use Rattle.std.proofs.Common.{◌≡◌, ℕ, ℤ, pos, negsuc, ◌-◌, ◌<◌, ◌≤◌, ◌^◌, true, false, List, [], ◌∷◌, length, get_or, arith, refl, zero, suc}
use Rattle.std.proofs.lemmas.Bool.Decides.{nat_tests}
use Rattle.std.proofs.lemmas.Fmt.{decimal_digit, decimal_is_IsNumeral, digits_is_IsNumeral, first_decimal}
use Rattle.std.specs.Char.{digit_value}
use Rattle.std.specs.Fmt.{digits, signed_decimal}
use Rattle.std.specs.Int.RustNames.{FitsSigned}
use Rattle.std.specs.List.{list_all}
use mir.Syntax.{w16, w32, w64}
use Rattle.std.specs.Prelude.{◌==◌, nat_lt, nat_le, decimal, Some}
use Rattle.std.specs.Str.Parse.{AllDigits, digits_value}
use Rattle.ipc_words.specs.Numbers.{behind_zero, fits_signed, number_of, number_within, numeral, signed_16, signed_32, signed_64}

are_digits : (base : ℕ) (ds : List ℕ) → AllDigits base ds → list_all (λ c. nat_lt (digit_value c) base) ds ≡ true
are_digits base [] h = refl
are_digits base (d ∷ ds) h = let first : nat_lt (digit_value d) base ≡ true = let lt = h.0 in grind (arith, nat_tests) in rw first (are_digits base ds h.1)

numeral-digits : (base n : ℕ) (ds : List ℕ) → AllDigits base ds → digits_value base ds ≡ n → numeral base ds ≡ Some n
numeral-digits base n ds h e = rw (are_digits base ds h, e) refl

-- a digit is none of the bytes below 0, and no colon
digit_above : (base d : ℕ) → base ≤ 16 → digit_value d < base → (nat_lt 47 d ≡ true) × ((d == 58) ≡ false) × ((d == 120) ≡ false)
digit_above base d h k = (grind (arith, nat_tests), grind (arith, nat_tests), grind (arith, nat_tests))

-- in decimal
plain_if : (c n : ℕ) (cs : List ℕ) → 48 < c → numeral 10 (c ∷ cs) ≡ Some n → number_of (c ∷ cs) ≡ Some n
plain_if c n cs h e = let other : (c == 48) ≡ false = grind (arith, nat_tests) in rw other e

plain : (n : ℕ) (ds : List ℕ) → 48 < get_or ds 0 0 → numeral 10 ds ≡ Some n → number_of ds ≡ Some n
plain n [] h e = absurd (omega arith)
plain n (c ∷ cs) h e = plain_if c n cs h e

pub number_of-decimal : (n : ℕ) → n < 2 ^ 64 → number_of (decimal n) ≡ Some n
number_of-decimal zero h = rw (decimal_digit 0 (omega arith)) refl
number_of-decimal (suc n) h =
    let own = decimal_is_IsNumeral (suc n) h in
    plain (suc n) (decimal (suc n)) (first_decimal (suc n) (omega arith) h) (numeral-digits 10 (suc n) (decimal (suc n)) own.0.1 own.1)

-- in octal, behind a 0
octal_if : (c n : ℕ) (cs : List ℕ) → digit_value c < 8 → numeral 8 (c ∷ cs) ≡ Some n → behind_zero (c ∷ cs) ≡ Some n
octal_if c n cs h e = let other : (c == 120) ≡ false = (digit_above 8 c (omega arith) h).2 in rw other e

octal : (n : ℕ) (ds : List ℕ) → 0 < length ds → AllDigits 8 ds → numeral 8 ds ≡ Some n → behind_zero ds ≡ Some n
octal n [] some h e = absurd (omega arith)
octal n (c ∷ cs) some h e = octal_if c n cs h.0 e

below_8 : (n : ℕ) → n < 2 ^ 64 → n < 8 ^ 64
below_8 n h = omega arith

pub number_of-octal : (n : ℕ) → n < 2 ^ 64 → number_of (48 ∷ digits 8 false n) ≡ Some n
number_of-octal n h =
    let own = digits_is_IsNumeral 8 false (omega arith) (omega arith) n (below_8 n h) in
    octal n (digits 8 false n) own.0.0 own.0.1 (numeral-digits 8 n (digits 8 false n) own.0.1 own.1)

-- in hexadecimal, behind 0x
hexadecimal_some : (n : ℕ) (ds : List ℕ) → 0 < length ds → numeral 16 ds ≡ Some n → number_of (48 ∷ 120 ∷ ds) ≡ Some n
hexadecimal_some n [] some e = absurd (omega arith)
hexadecimal_some n (c ∷ cs) some e = e

pub number_of-hexadecimal : (n : ℕ) → n < 2 ^ 64 → number_of (48 ∷ 120 ∷ digits 16 false n) ≡ Some n
number_of-hexadecimal n h =
    let own = digits_is_IsNumeral 16 false (omega arith) (omega arith) n (omega arith) in
    hexadecimal_some n (digits 16 false n) own.0.0 (numeral-digits 16 n (digits 16 false n) own.0.1 own.1)

-- where it is at most so much
within : (most n : ℕ) (word : List ℕ) → n ≤ most → number_of word ≡ Some n → number_within most word ≡ Some n
unfolding number_within
within most n word h e = let le : nat_le n most ≡ true = grind (arith, nat_tests) in rw (e, le) refl

pub within-decimal : (most n : ℕ) → n ≤ most → n < 2 ^ 64 → number_within most (decimal n) ≡ Some n
within-decimal most n h k = within most n (decimal n) h (number_of-decimal n k)

pub within-octal : (most n : ℕ) → n ≤ most → n < 2 ^ 64 → number_within most (48 ∷ digits 8 false n) ≡ Some n
within-octal most n h k = within most n (48 ∷ digits 8 false n) h (number_of-octal n k)

pub within-hexadecimal : (most n : ℕ) → n ≤ most → n < 2 ^ 64 → number_within most (48 ∷ 120 ∷ digits 16 false n) ≡ Some n
within-hexadecimal most n h k = within most n (48 ∷ 120 ∷ digits 16 false n) h (number_of-hexadecimal n k)

-- with a sign
unsigned_if : (n c : ℕ) (cs : List ℕ) → digit_value c < 10 → number_within (2 ^ 63 - 1) (c ∷ cs) ≡ Some n → signed_64 (c ∷ cs) ≡ Some (pos n)
unsigned_if n c cs h e =
    let minus : (c == 45) ≡ false = grind (arith, nat_tests) in
    let plus : (c == 43) ≡ false = grind (arith, nat_tests) in
    rw (minus, plus, e) refl

unsigned : (n : ℕ) (ds : List ℕ) → 0 < length ds → AllDigits 10 ds → number_within (2 ^ 63 - 1) ds ≡ Some n → signed_64 ds ≡ Some (pos n)
unsigned n [] some h e = absurd (omega arith)
unsigned n (c ∷ cs) some h e = unsigned_if n c cs h.0 e

pub signed_64-decimal : (z : ℤ) → FitsSigned w64 z → signed_64 (signed_decimal z) ≡ Some z
signed_64-decimal (pos n) h =
    let fits = h.sfits in
    let own = decimal_is_IsNumeral n (omega arith) in
    unsigned n (decimal n) own.0.0 own.0.1 (within-decimal (2 ^ 63 - 1) n (omega arith) (omega arith))
signed_64-decimal (negsuc n) h = let fits = h.sfits in rw (within-decimal (2 ^ 63) (suc n) (omega arith) (omega arith)) refl

fits_16 : (z : ℤ) → FitsSigned w16 z → fits_signed 16 z ≡ Some z
fits_16 (pos n) h = let fits = h.sfits in grind (arith, nat_tests)
fits_16 (negsuc n) h = let fits = h.sfits in grind (arith, nat_tests)

fits_32 : (z : ℤ) → FitsSigned w32 z → fits_signed 32 z ≡ Some z
fits_32 (pos n) h = let fits = h.sfits in grind (arith, nat_tests)
fits_32 (negsuc n) h = let fits = h.sfits in grind (arith, nat_tests)

wider_16 : (z : ℤ) → FitsSigned w16 z → FitsSigned w64 z
wider_16 z h = let fits = h.sfits in record { sfits = omega arith }

wider_32 : (z : ℤ) → FitsSigned w32 z → FitsSigned w64 z
wider_32 z h = let fits = h.sfits in record { sfits = omega arith }

pub signed_16-decimal : (z : ℤ) → FitsSigned w16 z → signed_16 (signed_decimal z) ≡ Some z
signed_16-decimal z h = rw (signed_64-decimal z (wider_16 z h)) (fits_16 z h)

pub signed_32-decimal : (z : ℤ) → FitsSigned w32 z → signed_32 (signed_decimal z) ≡ Some z
signed_32-decimal z h = rw (signed_64-decimal z (wider_32 z h)) (fits_32 z h)
