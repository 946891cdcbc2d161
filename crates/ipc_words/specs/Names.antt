-- Names of clients (the project's own choice): 1 to 16 of a to z and 0 to 9, a letter first, and no directive's word.
use Rattle.std.specs.Prelude.{ℕ, Bool, false, not, ◌||◌, ◌&&◌, List, [], ◌∷◌, length, nat_le, codes, bytes_eq, Option, Some, None, if◌then◌else◌}
use Rattle.std.specs.List.{list_all}

abbrev pub is_letter : ℕ → Bool
is_letter b = nat_le 97 b && nat_le b 122

abbrev pub is_name_byte : ℕ → Bool
is_name_byte b = is_letter b || (nat_le 48 b && nat_le b 57)

abbrev pub is_directive : List ℕ → Bool
is_directive word = bytes_eq word (codes "client") || (bytes_eq word (codes "limit") || bytes_eq word (codes "clock"))

unfoldable pub is_name : List ℕ → Bool
is_name [] = false
is_name (b ∷ bs) =
    nat_le (length (b ∷ bs)) 16 && (is_letter b && (list_all is_name_byte bs && not (is_directive (b ∷ bs))))

abbrev pub name_of : List ℕ → Option (List ℕ)
name_of word = if is_name word then Some word else None
