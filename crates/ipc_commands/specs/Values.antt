-- The values of the commands' options.
use Rattle.std.specs.Prelude.{ℕ, Bool, false, ◌==◌, List, [], ◌∷◌, length, nat_le, bit_and, Option, Some, None, if◌then◌else◌, option_and_then, option_map}
use Rattle.ipc_words.specs.Numbers.{at_most, number_32, number_within, numeral}

-- a key that isn't IPC_PRIVATE, which is 0
abbrev pub shared_key : ℕ → Option ℕ
shared_key key = if key == 0 then None else Some key

abbrev pub key_of : List ℕ → Option ℕ
key_of word = option_and_then shared_key (number_32 word)

-- the digit 0 (byte 48), and more behind it
abbrev pub has_leading_zero : List ℕ → Bool
has_leading_zero [] = false
has_leading_zero (c ∷ []) = false
has_leading_zero (c ∷ d ∷ ds) = c == 48

-- a number in decimal
unfoldable pub decimal_within : ℕ → List ℕ → Option ℕ
decimal_within most word = if has_leading_zero word then None else number_within most word

-- the low nine bits, 0777
abbrev pub permission_bits : ℕ → ℕ
permission_bits mode = bit_and mode 511

-- a mode of at most 07777, in octal digits
abbrev pub octal_mode : List ℕ → Option ℕ
octal_mode word = option_map permission_bits (option_and_then (at_most 4095) (numeral 8 word))

-- a mode of 1 to 4 digits
unfoldable pub mode_of : List ℕ → Option ℕ
mode_of [] = None
mode_of (c ∷ cs) = if nat_le (length (c ∷ cs)) 4 then octal_mode (c ∷ cs) else None
