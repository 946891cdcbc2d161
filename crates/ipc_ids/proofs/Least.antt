-- The least number that passes.
use Rattle.std.proofs.Common.{◌≡◌, ℕ, zero, suc, ◌+◌, ◌<◌, ◌≤◌, Bool, true, false, refl, sym, ap, ◌∙◌, arith, ⊎_elim, Some, None}
use Rattle.std.proofs.lemmas.Bool.{cases_eq, cases_Bool}
use Rattle.std.proofs.lemmas.Option.{none-some, same_Some}
use Rattle.ipc_ids.specs.Table.{least_from}

pub least_none : (test : ℕ → Bool) (n start : ℕ) → ((k : ℕ) → start ≤ k → k < start + n → test k ≡ false) → least_from test n start ≡ None
least_none test zero start none = refl
least_none test (suc n) start none = rw (none start (omega arith) (omega arith)) (least_none test n (start + 1) (λ k a b. none k (omega arith) (omega arith)))

pub least_some : (test : ℕ → Bool) (n start k : ℕ) → start ≤ k → k < start + n → ((j : ℕ) → start ≤ j → j < k → test j ≡ false) → test k ≡ true → least_from test n start ≡ Some k
least_some test zero start k a b before here = absurd (omega arith)
least_some test (suc n) start k a b before here =
    ⊎_elim
    (λ (e : start ≡ k). let first : test start ≡ true = ap test e ∙ here in rw first (ap (λ (n : ℕ). Some n) e))
    (λ (ne : start ≡ k → ⊥). rw (before start (omega arith) (omega arith)) (least_some test n (start + 1) k (omega arith) (omega arith) (λ j c d. before j (omega arith) d) here))
    (cases_eq start k)

-- a number that is found passes, and is one of those
pub least_found : (test : ℕ → Bool) (n start k : ℕ) → least_from test n start ≡ Some k → (test k ≡ true) × (k < start + n)
least_found test zero start k is = absurd (none-some k is)
least_found test (suc n) start k is =
    ⊎_elim
    (λ (here : test start ≡ true). let same : start ≡ k = same_Some start k (rw here at is) in (ap test (sym same) ∙ here, omega arith))
    (λ (here : test start ≡ false). let later = least_found test n (start + 1) k (rw here at is) in (later.0, omega (arith, later.1)))
    (cases_Bool (test start))
