-- A name's bytes are ASCII.
use Rattle.std.proofs.Common.{◌≡◌, ℕ, ◌<◌, Bool, true, false, ◌&&◌, List, [], ◌∷◌, arith, refl, zero, suc}
use Rattle.std.proofs.lemmas.Bool.Decides.{nat_tests}
use Rattle.std.proofs.lemmas.Str.{IsUtf8-from_ascii}
use Rattle.std.specs.List.{list_all}
use Rattle.std.specs.Str.{IsAscii, IsUtf8}
use Rattle.ipc_words.specs.Names.{is_letter, is_name, is_name_byte}

ascii_byte : (b : ℕ) → is_name_byte b ≡ true → b < 128
ascii_byte b h = grind (arith, nat_tests)

ascii_letter : (b : ℕ) → is_letter b ≡ true → b < 128
ascii_letter b h = grind (arith, nat_tests)

ascii_cons : (b : ℕ) (bs : List ℕ) → b < 128 → IsAscii bs → IsAscii (b ∷ bs)
ascii_cons b bs h k zero = h
ascii_cons b bs h k (suc i) = k i

ascii_nil : IsAscii []
ascii_nil i = omega arith

both : (a b : Bool) → (a && b) ≡ true → (a ≡ true) × (b ≡ true)
both true b h = (refl, h)
both false b h = cc

ascii_rest : (bs : List ℕ) → list_all is_name_byte bs ≡ true → IsAscii bs
ascii_rest [] h = ascii_nil
ascii_rest (b ∷ bs) h =
    let parts = both (is_name_byte b) (list_all is_name_byte bs) h in
    ascii_cons b bs (ascii_byte b parts.0) (ascii_rest bs parts.1)

pub IsUtf8-is_name : (word : List ℕ) → is_name word ≡ true → IsUtf8 word
unfolding is_name
IsUtf8-is_name [] h = cc
IsUtf8-is_name (b ∷ bs) h =
    let short = both _ _ h in
    let letter = both _ _ short.1 in
    let others = both _ _ letter.1 in
    IsUtf8-from_ascii (b ∷ bs) (ascii_cons b bs (ascii_letter b letter.0) (ascii_rest bs others.0))
