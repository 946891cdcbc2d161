-- The lines that are left of a text, one after the other.
use Rattle.std.proofs.Common.{◌≡◌, ℕ, List, [], ◌∷◌, length, suc, Bor}
use Rattle.std.specs.Prelude.{Option, Some, None, MatchOption}
use Rattle.ipc_words.specs.Words.{fields_of}

-- the lines of what is left, and a number that falls from line to line
abbrev pub lines_left : Option (Bor (List ℕ)) → List (List ℕ)
lines_left None = []
lines_left (Some text) = fields_of 10 text.now

abbrev pub bytes_left : Option (Bor (List ℕ)) → ℕ
bytes_left None = 0
bytes_left (Some text) = suc (length text.now)

-- the first line of what is left, and the rest
pub lines_left-cons : (text line : List ℕ) (others : Option (Bor (List ℕ))) → MatchOption others (fields_of 10 text ≡ line ∷ []) (λ rest. fields_of 10 text ≡ line ∷ fields_of 10 rest.now) → fields_of 10 text ≡ line ∷ lines_left others
lines_left-cons text line None h = h
lines_left-cons text line (Some rest) h = h
