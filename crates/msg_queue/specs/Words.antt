-- The place of a message in one word, of which 2^64 - 1 stands for none.
use Rattle.std.specs.Prelude.{◌≡◌, ℕ, Bool, true, false, nat_eq, ◌==◌, Option, Some, None, if◌then◌else◌, refl}
use Rattle.std.proofs.Common.{sym}
use Rattle.std.proofs.lemmas.Bool.{eqb-true}

abbrev pub place_of : ℕ → Option ℕ
place_of word = if word == 18446744073709551615 then None else Some word

abbrev pub word_of : Option ℕ → ℕ
word_of None = 18446744073709551615
word_of (Some place) = place

-- the place gives its word back
pub word_is : (word : ℕ) → word_of (place_of word) ≡ word
word_is word = by (nat_eq word 18446744073709551615) refl
  where
    by : (b : Bool) → nat_eq word 18446744073709551615 ≡ b → word_of (if b then None else Some word) ≡ word
    by true is = sym (eqb-true word 18446744073709551615 is)
    by false is = refl
