-- The rows of semadj that the removal of a set leaves.
use Rattle.std.proofs.Common.{◌≡◌, ◌∙◌, ℕ, ap, arith, cond, sym}
use Rattle.std.specs.Prelude.{◌==◌, false, not, None, Option, unwrap_or}
use Rattle.std.specs.FinMap as finite
use Rattle.sem_undo.specs.Entries.{Place, Undone, place_cmp, row_len}
use Rattle.sem_undo.proofs.Keys.{place_same}

-- a row at another set is as long as it was
pub row-kept : (u after : Undone) (id client set : ℕ) → after.rows ≡ finite.retain_keys u.rows (λ p. not (p.set == id)) → (set ≡ id → ⊥)
    → row_len after client set ≡ row_len u client set
row-kept u after id client set is ne =
    let p : Place = record { client = client; set = set } in
    let apart : (set == id) ≡ false = grind arith in
    ap (λ (o : Option ℕ). unwrap_or o 0)
    (ap (λ (rows : finite.FinMap place_cmp ℕ). finite.get rows p) is
    ∙ finite.get-retain_keys u.rows (λ (q : Place). not (q.set == id)) p (λ x tied. ap (λ (q : Place). not (q.set == id)) (sym (place_same p x tied)))
    ∙ ap (λ b. cond (not b) (finite.get u.rows p) None) apart)
