-- Texts in lines that are no longer than a screen is wide (the project's own).
use Rattle.std.specs.Prelude.{ℕ, ◌+◌, ◌≤◌, Bool, List, [], ◌∷◌, ◌++◌, flat_map, length, nat_le, if◌then◌else◌}
use Rattle.std.specs.List.{AllByRecursion}
use Rattle.ipc_words.specs.Lines.{split}
use Rattle.ipc_words.specs.Words.{words_of}

-- there is room for a word behind a blank, on a line that has so many bytes
abbrev pub has_room : ℕ → ℕ → List ℕ → Bool
has_room width used w = nat_le (used + 1 + length w) width

-- words behind a line: each on it where there is room, and else on a line of its own behind two blanks
abbrev pub packed : ℕ → List ℕ → List (List ℕ) → List (List ℕ)
packed width line [] = line ∷ []
packed width line (w ∷ ws) =
    if has_room width (length line) w then packed width (line ++ 32 ∷ w) ws else line ∷ packed width (32 ∷ 32 ∷ w) ws

abbrev pub packed_all : ℕ → List (List ℕ) → List (List ℕ)
packed_all width [] = [] ∷ []
packed_all width (w ∷ ws) = packed width w ws

-- the lines that come of a line, and of the whole lines of a text
abbrev pub folded : ℕ → List ℕ → List (List ℕ)
folded width line = packed_all width (words_of line)

abbrev pub folded_each : ℕ → List (List ℕ) → List (List ℕ)
folded_each width lines = flat_map (folded width) lines

abbrev pub folded_all : ℕ → List ℕ → List (List ℕ)
folded_all width text = folded_each width (split text).whole

abbrev pub lines_text : List (List ℕ) → List ℕ
lines_text lines = flat_map (λ l. l ++ 10 ∷ []) lines

-- where each word fits into so many bytes behind two blanks, so does each line
abbrev pub AreShort : ℕ → ℕ → List ℕ → Type 0
AreShort width most line =
    width ≤ most → AllByRecursion (λ w. length w + 2 ≤ most) (words_of line) → AllByRecursion (λ l. length l ≤ most) (folded width line)

-- the next word as it is written behind a line that has so many bytes, and how many its line has then
abbrev pub next_text : ℕ → ℕ → List ℕ → List ℕ
next_text width used w = if has_room width used w then 32 ∷ w else 10 ∷ 32 ∷ 32 ∷ w

abbrev pub next_used : ℕ → ℕ → List ℕ → ℕ
next_used width used w = if has_room width used w then used + 1 + length w else length w + 2

abbrev pub behind : ℕ → ℕ → List (List ℕ) → List ℕ
behind width used [] = []
behind width used (w ∷ ws) = next_text width used w ++ behind width (next_used width used w) ws
