-- What numbers, bytes and operations are written as are words.
use Rattle.std.proofs.Common.{◌≡◌, ℕ, ℤ, pos, negsuc, ◌<◌, ◌≤◌, ◌^◌, ◌/◌, ◌%◌, Bool, true, false, not, ◌&&◌, List, [], ◌∷◌, length, arith, refl, zero, suc, slice_index}
use Rattle.std.proofs.lemmas.Bool.Decides.{nat_tests}
use Rattle.std.proofs.lemmas.Fmt.{decimal_is_IsNumeral, digits_is_IsNumeral}
use Rattle.std.specs.Char.{digit_value}
use Rattle.std.specs.Fmt.{digits, signed_decimal}
use Rattle.std.specs.Int.RustNames.{FitsSigned}
use Rattle.std.proofs.lemmas.List.Elements.{All-head, All-tail}
use Rattle.std.specs.List.{All, list_all}
use Rattle.std.specs.Prelude.{◌==◌, nat_lt, nat_le, decimal, Ok}
use Rattle.std.specs.Str.Parse.{AllDigits, IsNumeral}
use Rattle.hex.proofs.HexLemmas.{decode_of-encode_lower}
use Rattle.hex.specs.Hex.{IsBytes, decode_of, encode_lower, encode_with, lower_digits}
use mir.Syntax.{w64}
use Rattle.ipc_journal_text.proofs.WordLemmas.{IsWord, are_above, both, is_free}

-- a word of digits alone has no byte below 0 and no colon
pub record IsNumber (word : List ℕ) : Type 0 where
  pub some : 0 < length word
  pub solid : are_above 47 word ≡ true
  pub free : is_free 58 word ≡ true

digit_above : (base d : ℕ) → base ≤ 16 → digit_value d < base → (nat_lt 47 d ≡ true) × ((d == 58) ≡ false)
digit_above base d h k = (grind (arith, nat_tests), grind (arith, nat_tests))

digits_above : (base : ℕ) (ds : List ℕ) → base ≤ 16 → AllDigits base ds → are_above 47 ds ≡ true
digits_above base [] h k = refl
digits_above base (d ∷ ds) h k = let first = digit_above base d h k.0 in rw (first.0) (digits_above base ds h k.1)

digits_free : (base : ℕ) (ds : List ℕ) → base ≤ 16 → AllDigits base ds → is_free 58 ds ≡ true
digits_free base [] h k = refl
digits_free base (d ∷ ds) h k = let first = digit_above base d h k.0 in rw (first.1) (digits_free base ds h k.1)

number : (base : ℕ) (ds : List ℕ) → base ≤ 16 → IsNumeral base ds → IsNumber ds
number base ds h k = record { some = k.0; solid = digits_above base ds h k.1; free = digits_free base ds h k.1 }

pub IsNumber-decimal : (n : ℕ) → n < 2 ^ 64 → IsNumber (decimal n)
IsNumber-decimal n h = number 10 (decimal n) (omega arith) (decimal_is_IsNumeral n h).0

pub IsNumber-octal : (n : ℕ) → n < 2 ^ 64 → IsNumber (48 ∷ digits 8 false n)
IsNumber-octal n h =
    let own = number 8 (digits 8 false n) (omega arith) (digits_is_IsNumeral 8 false (omega arith) (omega arith) n (omega arith)).0 in
    record { some = omega arith; solid = own.solid; free = own.free }

pub IsNumber-hexadecimal : (n : ℕ) → n < 2 ^ 64 → IsNumber (48 ∷ 120 ∷ digits 16 false n)
IsNumber-hexadecimal n h =
    let own = number 16 (digits 16 false n) (omega arith) (digits_is_IsNumeral 16 false (omega arith) (omega arith) n (omega arith)).0 in
    record { some = omega arith; solid = own.solid; free = own.free }

lower : (low high : ℕ) (text : List ℕ) → low ≤ high → are_above high text ≡ true → are_above low text ≡ true
lower low high [] h k = refl
lower low high (b ∷ bs) h k =
    let parts = both (nat_lt high b) (are_above high bs) k in
    let first : nat_lt low b ≡ true = let e = parts.0 in grind (arith, nat_tests) in
    rw first (lower low high bs h parts.1)

-- a byte above another is none of those up to it
pub free_above : (low separator : ℕ) (text : List ℕ) → separator ≤ low → are_above low text ≡ true → is_free separator text ≡ true
free_above low separator [] h k = refl
free_above low separator (b ∷ bs) h k =
    let parts = both (nat_lt low b) (are_above low bs) k in
    let first : (b == separator) ≡ false = let e = parts.0 in grind (arith, nat_tests) in
    rw first (free_above low separator bs h parts.1)

pub IsWord-number : (word : List ℕ) → IsNumber word → IsWord word
IsWord-number word h = record { some = h.some; solid = lower 32 47 word (omega arith) h.solid }

pub IsWord-decimal : (n : ℕ) → n < 2 ^ 64 → IsWord (decimal n)
IsWord-decimal n h = IsWord-number (decimal n) (IsNumber-decimal n h)

pub IsWord-octal : (n : ℕ) → n < 2 ^ 64 → IsWord (48 ∷ digits 8 false n)
IsWord-octal n h = IsWord-number (48 ∷ digits 8 false n) (IsNumber-octal n h)

pub IsWord-hexadecimal : (n : ℕ) → n < 2 ^ 64 → IsWord (48 ∷ 120 ∷ digits 16 false n)
IsWord-hexadecimal n h = IsWord-number (48 ∷ 120 ∷ digits 16 false n) (IsNumber-hexadecimal n h)

-- a sign is no separator either
pub record IsSigned (word : List ℕ) : Type 0 where
  pub some : 0 < length word
  pub solid : are_above 44 word ≡ true
  pub free : is_free 58 word ≡ true

pub IsSigned-decimal : (z : ℤ) → FitsSigned w64 z → IsSigned (signed_decimal z)
IsSigned-decimal (pos n) h =
    let fits = h.sfits in
    let own = IsNumber-decimal n (omega arith) in
    record { some = own.some; solid = lower 44 47 (decimal n) (omega arith) own.solid; free = own.free }
IsSigned-decimal (negsuc n) h =
    let fits = h.sfits in
    let own = IsNumber-decimal (suc n) (omega arith) in
    record { some = omega arith; solid = lower 44 47 (decimal (suc n)) (omega arith) own.solid; free = own.free }

pub IsWord-signed : (z : ℤ) → FitsSigned w64 z → IsWord (signed_decimal z)
IsWord-signed z h = let own = IsSigned-decimal z h in record { some = own.some; solid = lower 32 44 (signed_decimal z) (omega arith) own.solid }

-- bytes, each by two digits of a table

at_all : (f : ℕ → Bool) (xs : List ℕ) (i : ℕ) → list_all f xs ≡ true → i < length xs → f (slice_index xs i) ≡ true
at_all f [] i h k = absurd (omega arith)
at_all f (x ∷ xs) zero h k = (both (f x) (list_all f xs) h).0
at_all f (x ∷ xs) (suc i) h k = at_all f xs i (both (f x) (list_all f xs) h).1 (omega arith)

encoded : (f : ℕ → Bool) (bytes : List ℕ) → list_all f lower_digits ≡ true → All (λ b. b < 2 ^ 8) bytes → list_all f (encode_lower bytes) ≡ true
unfolding encode_with
encoded f [] h k = refl
encoded f (b ∷ bytes) h k =
    let small : b < 2 ^ 8 = All-head (λ n. n < 2 ^ 8) b bytes k in
    let high = at_all f lower_digits (b / 16) h (omega arith) in
    let low = at_all f lower_digits (b % 16) h (omega arith) in
    rw (high, low) (encoded f bytes h (All-tail (λ n. n < 2 ^ 8) b bytes k))

pub IsWord-bytes : (bytes : List ℕ) → All (λ b. b < 2 ^ 8) bytes → IsWord (120 ∷ 58 ∷ encode_lower bytes)
IsWord-bytes bytes h = record { some = omega arith; solid = encoded (λ b. nat_lt 32 b) bytes refl h }

pub are_small : (bytes : List ℕ) → All (λ b. b < 2 ^ 8) bytes → list_all (λ c. not (nat_le 65 c && nat_le c 90)) (encode_lower bytes) ≡ true
are_small bytes h = encoded (λ c. not (nat_le 65 c && nat_le c 90)) bytes refl h

are_bytes : (bytes : List ℕ) → All (λ b. b < 2 ^ 8) bytes → IsBytes bytes
are_bytes [] h i = omega arith
are_bytes (b ∷ bytes) h zero = All-head (λ n. n < 2 ^ 8) b bytes h
are_bytes (b ∷ bytes) h (suc i) = are_bytes bytes (All-tail (λ n. n < 2 ^ 8) b bytes h) i

pub decoded-encoded : (bytes : List ℕ) → All (λ b. b < 2 ^ 8) bytes → decode_of (encode_lower bytes) ≡ Ok bytes
decoded-encoded bytes h = decode_of-encode_lower bytes (are_bytes bytes h)
