-- Lists of numbers and of capabilities, field by field.
use Rattle.std.proofs.Common.{◌≡◌, ℕ, List, [], ◌∷◌, length, refl, suc, Bor}
use Rattle.std.specs.Prelude.{Option, Some, None, MatchOption, bit_or}
use Rattle.ipc_text.specs.Grammar.{capability_named, with_capabilities}
use Rattle.ipc_words.specs.Words.{fields_of}

-- the fields of what is left of a list, and a number that falls from field to field
abbrev pub fields_left : Option (Bor (List ℕ)) → List (List ℕ)
fields_left None = []
fields_left (Some text) = fields_of 44 text.now

abbrev pub bytes_left : Option (Bor (List ℕ)) → ℕ
bytes_left None = 0
bytes_left (Some text) = suc (length text.now)

-- the first field of what is left, and the rest
pub fields_left-cons : (text field : List ℕ) (others : Option (Bor (List ℕ))) → MatchOption others (fields_of 44 text ≡ field ∷ []) (λ rest. fields_of 44 text ≡ field ∷ fields_of 44 rest.now) → fields_of 44 text ≡ field ∷ fields_left others
fields_left-cons text field None h = h
fields_left-cons text field (Some rest) h = h

pub with_capabilities-more : (caps cap : ℕ) (field : List ℕ) (fields : List (List ℕ)) → Some cap ≡ capability_named field → with_capabilities caps (field ∷ fields) ≡ with_capabilities (bit_or caps cap) fields
with_capabilities-more caps cap field fields e = rw (← e) refl
