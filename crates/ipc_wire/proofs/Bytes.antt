-- The words of a request and the bytes that they are.
use Rattle.std.proofs.Common.{◌≡◌, ℕ, ◌+◌, ◌^◌, ◌<◌, ◌≤◌, true, List, ◌++◌, length, get_or, take, drop, refl, sym, ap, ◌∙◌, inl, inr, arith}
use Rattle.std.specs.Int.{w32, w64, to_le_bytes}
use Rattle.std.proofs.lemmas.Bool.{and_parts, cases_lt, eqb-true, eq-eqb}
use Rattle.std.proofs.lemmas.List.{drop-drop, get_or-drop, get_or-take, get_or_past, length-drop, length-take, take-append-drop}
use Rattle.std.proofs.lemmas.Nat.{le_bytes_4, le_bytes_8, from_le_bytes-to_le_bytes_4, from_le_bytes-to_le_bytes_8}
use Rattle.ipc_wire.specs.declared.words.Words.{Words}
use Rattle.ipc_wire.specs.Layout.{same_words, u32_at, u64_at, words_bytes, words_in}
use Rattle.ipc_wire.specs.Ranges.{AreBytes}

abbrev pub IsBytes : List ℕ → Type 0
IsBytes bytes = (i : ℕ) → get_or bytes i 0 < 256

pub are_bytes : (bytes : List ℕ) → AreBytes bytes → IsBytes bytes
are_bytes bytes all i =
    elim (cases_lt i (length bytes)) [
      | inl lt ↦ all i 0 lt
      | inr le ↦ rw (get_or_past bytes i 0 le) (omega arith)
    ]

pub bytes-drop : (n : ℕ) (bytes : List ℕ) → IsBytes bytes → IsBytes (drop n bytes)
bytes-drop n bytes h i = rw get_or-drop (h (n + i))

pub bytes-take : (n : ℕ) (bytes : List ℕ) → IsBytes bytes → IsBytes (take n bytes)
bytes-take n bytes h i =
    elim (cases_lt i n) [
      | inl lt ↦ rw (get_or-take n bytes i 0 lt) (h i)
      | inr le ↦ rw (get_or_past (take n bytes) i 0 (omega (arith, le, length-take n bytes))) (omega arith)
    ]

-- the bytes at a place, before those that follow
joined : (n at : ℕ) (bytes : List ℕ) → take n (drop at bytes) ++ drop (at + n) bytes ≡ drop at bytes
joined n at bytes =
    ap (λ (rest : List ℕ). take n (drop at bytes) ++ rest) (sym (drop-drop n at bytes)) ∙ take-append-drop n (drop at bytes)

part : (n at : ℕ) (bytes : List ℕ) → at + n ≤ length bytes → length (take n (drop at bytes)) ≡ n
part n at bytes long = omega (arith, long, length-take n (drop at bytes), length-drop at bytes)

pub u32_back : (at : ℕ) (bytes rest : List ℕ) → IsBytes bytes → at + 4 ≤ length bytes → rest ≡ drop (at + 4) bytes
    → to_le_bytes w32 (u32_at at bytes) ++ rest ≡ drop at bytes
u32_back at bytes rest fits long follows =
    let same = le_bytes_4 (take 4 (drop at bytes)) _ (part 4 at bytes long) (bytes-take 4 (drop at bytes) (bytes-drop at bytes fits)) refl in
    ap (λ (front : List ℕ). front ++ rest) same ∙ ap (λ (r : List ℕ). take 4 (drop at bytes) ++ r) follows ∙ joined 4 at bytes

pub u64_back : (at : ℕ) (bytes rest : List ℕ) → IsBytes bytes → at + 8 ≤ length bytes → rest ≡ drop (at + 8) bytes
    → to_le_bytes w64 (u64_at at bytes) ++ rest ≡ drop at bytes
u64_back at bytes rest fits long follows =
    let same = le_bytes_8 (take 8 (drop at bytes)) _ (part 8 at bytes long) (bytes-take 8 (drop at bytes) (bytes-drop at bytes fits)) refl in
    ap (λ (front : List ℕ). front ++ rest) same ∙ ap (λ (r : List ℕ). take 8 (drop at bytes) ++ r) follows ∙ joined 8 at bytes

-- the words that are read, and what follows them, are the bytes
pub words_back : (bytes : List ℕ) → IsBytes bytes → 48 ≤ length bytes → words_bytes (words_in bytes) ++ drop 48 bytes ≡ bytes
words_back bytes fits long =
    u32_back 0 bytes _ fits (omega (arith, long))
    (u32_back 4 bytes _ fits (omega (arith, long))
    (u64_back 8 bytes _ fits (omega (arith, long))
    (u64_back 16 bytes _ fits (omega (arith, long))
    (u64_back 24 bytes _ fits (omega (arith, long))
    (u64_back 32 bytes _ fits (omega (arith, long))
    (u64_back 40 bytes (drop 48 bytes) fits (omega (arith, long)) refl))))))

pub record WordsFit (w : Words) : Type 0 where
  pub op : w.op < 2 ^ 32
  pub seq : w.seq < 2 ^ 32
  pub a : w.a < 2 ^ 64
  pub b : w.b < 2 ^ 64
  pub c : w.c < 2 ^ 64
  pub d : w.d < 2 ^ 64
  pub e : w.e < 2 ^ 64

abbrev pub made : ℕ → ℕ → ℕ → ℕ → ℕ → ℕ → ℕ → Words
made op seq a b c d e = record { op = op; seq = seq; a = a; b = b; c = c; d = d; e = e }

pub equal_words : (v w : Words) → v.op ≡ w.op → v.seq ≡ w.seq → v.a ≡ w.a → v.b ≡ w.b → v.c ≡ w.c → v.d ≡ w.d → v.e ≡ w.e → v ≡ w
equal_words v w op seq a b c d e =
    ap (λ (x : ℕ). made x v.seq v.a v.b v.c v.d v.e) op
    ∙ ap (λ (x : ℕ). made w.op x v.a v.b v.c v.d v.e) seq
    ∙ ap (λ (x : ℕ). made w.op w.seq x v.b v.c v.d v.e) a
    ∙ ap (λ (x : ℕ). made w.op w.seq w.a x v.c v.d v.e) b
    ∙ ap (λ (x : ℕ). made w.op w.seq w.a w.b x v.d v.e) c
    ∙ ap (λ (x : ℕ). made w.op w.seq w.a w.b w.c x v.e) d
    ∙ ap (λ (x : ℕ). made w.op w.seq w.a w.b w.c w.d x) e

-- words that are written are read again, whatever follows
pub words_again : (w : Words) (rest : List ℕ) → WordsFit w → words_in (words_bytes w ++ rest) ≡ w
words_again w rest fits =
    equal_words (words_in (words_bytes w ++ rest)) w
    (from_le_bytes-to_le_bytes_4 w.op fits.op)
    (from_le_bytes-to_le_bytes_4 w.seq fits.seq)
    (from_le_bytes-to_le_bytes_8 w.a fits.a)
    (from_le_bytes-to_le_bytes_8 w.b fits.b)
    (from_le_bytes-to_le_bytes_8 w.c fits.c)
    (from_le_bytes-to_le_bytes_8 w.d fits.d)
    (from_le_bytes-to_le_bytes_8 w.e fits.e)

pub same_refl : (w : Words) → same_words w w ≡ true
same_refl w = rw (eq-eqb w.op w.op refl, eq-eqb w.seq w.seq refl, eq-eqb w.a w.a refl, eq-eqb w.b w.b refl, eq-eqb w.c w.c refl, eq-eqb w.d w.d refl, eq-eqb w.e w.e refl) refl

pub same_is : (v w : Words) → same_words v w ≡ true → v ≡ w
same_is v w same =
    let p = and_parts _ _ same in
    let q = and_parts _ _ p.0 in
    let r = and_parts _ _ q.0 in
    let s = and_parts _ _ r.0 in
    let t = and_parts _ _ s.0 in
    let u = and_parts _ _ t.0 in
    equal_words v w (eqb-true _ _ u.0) (eqb-true _ _ u.1) (eqb-true _ _ t.1) (eqb-true _ _ s.1) (eqb-true _ _ r.1) (eqb-true _ _ q.1) (eqb-true _ _ p.1)
