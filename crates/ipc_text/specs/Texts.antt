-- The text of a message, or bytes for a segment: t: and the bytes themselves, or x: and two hexadecimal digits for each
-- (the project's own).
use Rattle.std.specs.Prelude.{ℕ, Bool, not, ◌&&◌, List, codes, nat_le, Option, Some, None, Ok, Err, Result, if◌then◌else◌}
use Rattle.std.specs.List.{list_all}
use Rattle.hex.specs.Hex.{decode_of}
use Rattle.hex.specs.declared.error.FromHexError.{FromHexError}
use Rattle.ipc_words.specs.Words.{after_prefix}

-- no capital letter: A to Z are 65 to 90
abbrev pub is_small : ℕ → Bool
is_small c = not (nat_le 65 c && nat_le c 90)

abbrev pub decoded : Result (List ℕ) FromHexError → Option (List ℕ)
decoded (Ok bytes) = Some bytes
decoded (Err e) = None

-- the bytes that pairs of digits 0 to 9 and a to f write, the high four bits first
abbrev pub bytes_of : List ℕ → Option (List ℕ)
bytes_of digits = if list_all is_small digits then decoded (decode_of digits) else None

abbrev pub behind_x : Option (List ℕ) → Option (List ℕ)
behind_x None = None
behind_x (Some digits) = bytes_of digits

abbrev pub behind_t : List ℕ → Option (List ℕ) → Option (List ℕ)
behind_t word (Some text) = Some text
behind_t word None = behind_x (after_prefix (codes "x:") word)

-- the text that a word writes
abbrev pub text_of : List ℕ → Option (List ℕ)
text_of word = behind_t word (after_prefix (codes "t:") word)
