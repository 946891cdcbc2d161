-- The words of a line, and the fields of a word (the script language is the project's own).
use Rattle.std.specs.Prelude.{ℕ, Bool, true, ◌||◌, ◌&&◌, ◌==◌, List, [], ◌∷◌, length, drop, Option, Some, None, if◌then◌else◌, nat_le, nat_eq}
use Rattle.std.specs.List.{list_all, starts_with}

-- a space or a tab
abbrev pub is_blank : ℕ → Bool
is_blank b = b == 32 || b == 9

-- a tab, or a printing character of ASCII with the space
abbrev pub is_plain_byte : ℕ → Bool
is_plain_byte b = b == 9 || (nat_le 32 b && nat_le b 126)

abbrev pub is_plain : List ℕ → Bool
is_plain text = list_all is_plain_byte text

abbrev pub begins_blank : List ℕ → Bool
begins_blank [] = true
begins_blank (b ∷ bs) = is_blank b

-- a byte in front: of a new word where a blank or the end follows it, else of the first word
abbrev pub onto_word : ℕ → List (List ℕ) → List (List ℕ)
onto_word b [] = (b ∷ []) ∷ []
onto_word b (w ∷ ws) = (b ∷ w) ∷ ws

-- the words of a text, which blanks separate
abbrev pub words_of : List ℕ → List (List ℕ)
words_of [] = []
words_of (b ∷ bs) =
    if is_blank b then words_of bs else (if begins_blank bs then (b ∷ []) ∷ words_of bs else onto_word b (words_of bs))

-- the fields of a word, which a byte separates: there is at least one
abbrev pub fields_of : ℕ → List ℕ → List (List ℕ)
fields_of separator [] = [] ∷ []
fields_of separator (b ∷ bs) =
    if b == separator then [] ∷ fields_of separator bs else onto_word b (fields_of separator bs)

-- what follows a prefix, and None where the word doesn't begin with it
abbrev pub after_prefix : List ℕ → List ℕ → Option (List ℕ)
after_prefix prefix word = if starts_with nat_eq word prefix then Some (drop (length prefix) word) else None
