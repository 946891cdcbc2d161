-- Which call is whose.
use Rattle.std.proofs.Common.{◌≡◌, ℕ, true, false, eqb, List, [], ◌∷◌, refl, sym, ap, ◌∙◌, ⊎_elim, Some}
use Rattle.std.proofs.lemmas.Bool.{cases_Bool, or_left, or_parts, or_right, eqb-true, eqb-false, eq-eqb, ne_eqb}
use Rattle.std.proofs.lemmas.Option.{none-some}
use Rattle.ipc_parked.specs.declared.parked.Arrival.{Arrival}
use Rattle.ipc_parked.specs.Parked.{is_there, arrival_of, others}

-- the order of the two does not matter
pub turned : (a b : ℕ) → eqb a b ≡ eqb b a
turned a b =
    ⊎_elim
    (λ (same : eqb b a ≡ true). eq-eqb a b (sym (eqb-true b a same)) ∙ sym same)
    (λ (apart : eqb b a ≡ false). ne_eqb a b (λ e. eqb-false b a apart (sym e)) ∙ sym apart)
    (cases_Bool (eqb b a))

-- where no call of the client waits, those of the others are all
pub others_free : (c : ℕ) (es : List (ℕ × Arrival)) → is_there c es ≡ false → others c es ≡ es
others_free c [] free = refl
others_free c (e ∷ es) free =
    let parts = or_parts (eqb e.0 c) (is_there c es) free in
    rw parts.0 (ap (λ (ds : List (ℕ × Arrival)). e ∷ ds) (others_free c es parts.1))

-- a call that is found is there
pub there_from : (c : ℕ) (es : List (ℕ × Arrival)) (a : Arrival) → arrival_of c es ≡ Some a → is_there c es ≡ true
there_from c [] a is = absurd (none-some a is)
there_from c (e ∷ es) a is =
    ⊎_elim
    (λ (own : eqb e.0 c ≡ true). or_left (eqb e.0 c) (is_there c es) own)
    (λ (other : eqb e.0 c ≡ false). or_right (eqb e.0 c) (is_there c es) (there_from c es a (let i = rw other at is in i)))
    (cases_Bool (eqb e.0 c))
