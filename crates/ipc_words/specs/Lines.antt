-- How a text is cut into lines (the script language is the project's own).
use Rattle.std.specs.Prelude.{ℕ, ◌-◌, ◌==◌, Bool, not, List, [], ◌∷◌, ◌++◌, length, take, map, Option, Some, None, if◌then◌else◌, nat_le, slice_index}
use Rattle.std.specs.List.{list_all}

-- a text within a line, without a line feed (byte 10)
abbrev pub is_line : List ℕ → Bool
is_line text = list_all (λ b. not (b == 10)) text

-- the longest line, in bytes
abbrev pub longest_line : ℕ
longest_line = 65536

-- the lines that are ended by a line feed, without it, and what follows the last of them
pub record Split : Type 0 where
  pub whole : List (List ℕ)
  pub rest : List ℕ

abbrev pub onto_first : ℕ → List (List ℕ) → List ℕ → Split
onto_first b [] rest = record { whole = []; rest = b ∷ rest }
onto_first b (line ∷ lines) rest = record { whole = (b ∷ line) ∷ lines; rest = rest }

abbrev pub onto : ℕ → Split → Split
onto b s = if b == 10 then record { whole = [] ∷ s.whole; rest = s.rest } else onto_first b s.whole s.rest

abbrev pub split : List ℕ → Split
split [] = record { whole = []; rest = [] }
split (b ∷ bs) = onto b (split bs)

-- one carriage return (byte 13) directly before a line feed is dropped
abbrev pub without_return : List ℕ → List ℕ
without_return line = if slice_index line (length line - 1) == 13 then take (length line - 1) line else line

-- the line, or None where it is too long
abbrev pub within_limit : List ℕ → Option (List ℕ)
within_limit line = if nat_le (length line) longest_line then Some line else None

-- what a line that is ended by a line feed says
abbrev pub whole_line : List ℕ → Option (List ℕ)
whole_line line = within_limit (without_return line)

-- what follows the last line feed is a line too, where there is something
abbrev pub last_lines : List ℕ → List (Option (List ℕ))
last_lines [] = []
last_lines (b ∷ bs) = within_limit (b ∷ bs) ∷ []

-- the lines whose line feed has come
abbrev pub complete_lines : List ℕ → List (Option (List ℕ))
complete_lines text = map whole_line (split text).whole

-- the lines of a text that has ended
abbrev pub lines_of : List ℕ → List (Option (List ℕ))
lines_of text = complete_lines text ++ last_lines (split text).rest
