-- One more note at the end.
use Rattle.std.proofs.Common.{◌≡◌, ℕ, suc, ◌+◌, List, [], ◌∷◌, ◌++◌, length, take, drop, refl, ap, ◌∙◌, arith}
use Rattle.std.proofs.lemmas.Grind.{common_steps}
use Rattle.row_notes.specs.declared.notes.Note.{Note}
use Rattle.row_notes.specs.Noted.{Noted, noted, total_len}

none_is_more : (n : ℕ) → 0 ≡ suc n → ⊥
none_is_more n h = grind arith

none_left : (text : List ℕ) → 0 ≡ length text → text ≡ []
none_left [] h = refl
none_left (b ∷ bs) h = absurd (none_is_more (length bs) h)

pub noted_push : (notes : List Note) (n : Note) (text more : List ℕ) → total_len notes ≡ length text → n.len ≡ length more → noted (notes ++ n ∷ []) (text ++ more) ≡ noted notes text ++ record { head = n.head; text = more } ∷ []
noted_push [] n text more h l =
    let first : take n.len (text ++ more) ≡ more = rw (none_left text h) (grind (arith, common_steps)) in
    ap (λ (t : List ℕ). record { head = n.head; text = t } ∷ []) first
noted_push (m ∷ ms) n text more h l =
    let first : take m.len (text ++ more) ≡ take m.len text = grind (arith, common_steps) in
    let others : drop m.len (text ++ more) ≡ drop m.len text ++ more = grind (arith, common_steps) in
    let total : total_len ms ≡ length (drop m.len text) = grind (arith, common_steps) in
    (λ i. record { head = m.head; text = first i } ∷ noted (ms ++ n ∷ []) (others i))
    ∙ ap (λ (ns : List Noted). record { head = m.head; text = take m.len text } ∷ ns) (noted_push ms n (drop m.len text) more total l)

pub total_push : (notes : List Note) (n : Note) → total_len (notes ++ n ∷ []) ≡ total_len notes + n.len
total_push [] n = grind arith
total_push (m ∷ ms) n = ap (λ (len : ℕ). m.len + len) (total_push ms n) ∙ grind arith
