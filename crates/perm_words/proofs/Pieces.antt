-- A text to which pieces are appended one after the other.
use Rattle.std.proofs.Common.{◌≡◌, ℕ, List, ◌++◌, ap, ◌∙◌, append_assoc}

-- one piece, and then those behind it
pub and_then : (before between after piece more : List ℕ) → between ≡ before ++ piece → after ≡ between ++ more → after ≡ before ++ (piece ++ more)
and_then before between after piece more first rest =
    rest ∙ ap (λ (l : List ℕ). l ++ more) first ∙ append_assoc before piece more
