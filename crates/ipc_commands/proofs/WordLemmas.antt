-- Words that are plain are UTF-8.
use Rattle.std.proofs.Common.{◌≡◌, ℕ, ◌<◌, Bool, true, false, ◌&&◌, List, [], ◌∷◌, arith, refl, zero, suc}
use Rattle.std.proofs.lemmas.Bool.Decides.{nat_tests}
use Rattle.std.proofs.lemmas.Str.{IsUtf8-from_ascii}
use Rattle.std.specs.Prelude.{Result, Ok, Err, MatchResult, IsOk}
use Rattle.std.specs.Str.{IsAscii, IsUtf8}
use Rattle.ipc_words.specs.Words.{is_plain, is_plain_byte}

ascii_byte : (b : ℕ) → is_plain_byte b ≡ true → b < 128
ascii_byte b h = grind (arith, nat_tests)

ascii_cons : (b : ℕ) (bs : List ℕ) → b < 128 → IsAscii bs → IsAscii (b ∷ bs)
ascii_cons b bs h k zero = h
ascii_cons b bs h k (suc i) = k i

ascii_nil : IsAscii []
ascii_nil i = omega arith

both : (a b : Bool) → (a && b) ≡ true → (a ≡ true) × (b ≡ true)
both true b h = (refl, h)
both false b h = cc

ascii_plain : (word : List ℕ) → is_plain word ≡ true → IsAscii word
ascii_plain [] h = ascii_nil
ascii_plain (b ∷ bs) h =
    let parts = both (is_plain_byte b) (is_plain bs) h in
    ascii_cons b bs (ascii_byte b parts.0) (ascii_plain bs parts.1)

pub IsUtf8-is_plain : (word : List ℕ) → is_plain word ≡ true → IsUtf8 word
IsUtf8-is_plain word h = IsUtf8-from_ascii word (ascii_plain word h)

-- what reads every text of a kind reads this one
pub is_ok_if : {T E : Type 0} (r : Result T E) (P : T → Type 0) (Q : E → Type 0) (U : Type 0) → U → MatchResult r P (λ e. (U → ⊥) × Q e) → IsOk r
is_ok_if (Ok x) P Q U u h = refl
is_ok_if (Err e) P Q U u h = absurd (h.0 u)
