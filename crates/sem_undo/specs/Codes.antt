-- How what exit undoes is stored as a value.
use Rattle.std.specs.Prelude.{ℕ, ℤ, refl}
use Rattle.std.specs.Coded.{Coded, code_by, coded×, coded_ℕ, coded_ℤ}
use Rattle.std.specs.FinMap as finite
use Rattle.sem_undo.specs.Entries.{Adjusted, Place, Undone, adjusted_cmp, place_cmp}

abbrev pub place_code : Coded Place
place_code =
    code_by (ℕ × ℕ) (coded× coded_ℕ coded_ℕ) (λ p. (p.client, p.set))
    (λ c. record { client = c.0; set = c.1 }) (λ _. refl)

abbrev pub adjusted_code : Coded Adjusted
adjusted_code =
    code_by (ℕ × (ℕ × ℕ)) (coded× coded_ℕ (coded× coded_ℕ coded_ℕ)) (λ k. (k.client, (k.set, k.num)))
    (λ c. record { client = c.0; set = c.1.0; num = c.1.1 }) (λ _. refl)

abbrev pub undone_code : Coded Undone
undone_code =
    code_by (finite.FinMap adjusted_cmp ℤ × finite.FinMap place_cmp ℕ)
    (coded× (finite.code adjusted_code coded_ℤ) (finite.code place_code coded_ℕ))
    (λ u. (u.entries, u.rows)) (λ c. record { entries = c.0; rows = c.1 }) (λ _. refl)
