-- Numbers in a script: decimal, octal after 0, hexadecimal after 0x, as C writes them (POSIX.1-2017 XSH strtoul).
use Rattle.std.specs.Prelude.{ℕ, ℤ, pos, neg_ℤ, option_map, ◌==◌, ◌^◌, ◌-◌, ◌&&◌, int_le, int_lt, List, [], ◌∷◌, Option, Some, None, if◌then◌else◌, nat_le, nat_lt, option_and_then}
use Rattle.std.specs.List.{list_all}
use Rattle.std.specs.Char.{digit_value}
use Rattle.std.specs.Str.Parse.{digits_value}

-- the number that these digits of a base write
abbrev pub numeral : ℕ → List ℕ → Option ℕ
numeral base digits =
    if list_all (λ c. nat_lt (digit_value c) base) digits then Some (digits_value base digits) else None

-- behind 0x (byte 120) a digit at least has to stand
abbrev pub hexadecimal : List ℕ → Option ℕ
hexadecimal [] = None
hexadecimal (c ∷ cs) = numeral 16 (c ∷ cs)

abbrev pub behind_zero : List ℕ → Option ℕ
behind_zero [] = Some 0
behind_zero (c ∷ cs) = if c == 120 then hexadecimal cs else numeral 8 (c ∷ cs)

-- the number that a word writes: the digit 0 is byte 48
abbrev pub number_of : List ℕ → Option ℕ
number_of [] = None
number_of (c ∷ cs) = if c == 48 then behind_zero cs else numeral 10 (c ∷ cs)

abbrev pub at_most : ℕ → ℕ → Option ℕ
at_most most n = if nat_le n most then Some n else None

-- the number that a word writes, where it is at most so much
unfoldable pub number_within : ℕ → List ℕ → Option ℕ
number_within most word = option_and_then (at_most most) (number_of word)

abbrev pub number_16 : List ℕ → Option ℕ
number_16 word = number_within (2 ^ 16 - 1) word

abbrev pub number_32 : List ℕ → Option ℕ
number_32 word = number_within (2 ^ 32 - 1) word

abbrev pub number_64 : List ℕ → Option ℕ
number_64 word = number_within (2 ^ 64 - 1) word

-- a number of 64 bits with a sign, + (byte 43) or - (45), before it or none
abbrev pub positive : List ℕ → Option ℤ
positive word = option_map (λ n. pos n) (number_within (2 ^ 63 - 1) word)

abbrev pub negative : List ℕ → Option ℤ
negative word = option_map (λ n. neg_ℤ (pos n)) (number_within (2 ^ 63) word)

abbrev pub signed_64 : List ℕ → Option ℤ
signed_64 [] = None
signed_64 (c ∷ cs) = if c == 45 then negative cs else (if c == 43 then positive cs else positive (c ∷ cs))

-- the number, where a width of so many bits holds it with its sign
abbrev pub fits_signed : ℕ → ℤ → Option ℤ
fits_signed bits n =
    if int_le (neg_ℤ (pos (2 ^ (bits - 1)))) n && int_lt n (pos (2 ^ (bits - 1))) then Some n else None

abbrev pub signed_within : ℕ → List ℕ → Option ℤ
signed_within bits word = option_and_then (fits_signed bits) (signed_64 word)

abbrev pub signed_16 : List ℕ → Option ℤ
signed_16 word = signed_within 16 word

abbrev pub signed_32 : List ℕ → Option ℤ
signed_32 word = signed_within 32 word
