-- The least number that passes a test.
use Rattle.std.proofs.Common.{◌≡◌, ◌∙◌, ℕ, zero, suc, ◌+◌, ◌<◌, ◌≤◌, ap, arith, refl, sym, Bool, true, false, ⊎_elim}
use Rattle.std.specs.Prelude.{Option, Some, None, if◌then◌else◌}
use Rattle.std.proofs.lemmas.Bool.{cases_eq, cases_lt, true≢false}
use Rattle.shm_seg.specs.Attachments.{least_from}

-- what the least number from a start up to an end is
pub record IsLeast (test : ℕ → Bool) (start end n : ℕ) : Type 0 where
  pub low : start ≤ n
  pub high : n < end
  pub passes : test n ≡ true
  pub none_before : (k : ℕ) → start ≤ k → k < n → test k ≡ false

module _ (test : ℕ → Bool) where
  -- it is the least, or none passes
  abbrev pub Finds : ℕ → ℕ → Option ℕ → Type 0
  Finds start end None = (k : ℕ) → start ≤ k → k < end → test k ≡ false
  Finds start end (Some n) = IsLeast test start end n

  later : (start end : ℕ) (o : Option ℕ) → test start ≡ false → Finds (start + 1) end o → Finds start end o
  later start end None fails none = λ k l h. ⊎_elim (λ (e : k ≡ start). ap test e ∙ fails) (λ (ne : k ≡ start → ⊥). none k (omega arith) h) (cases_eq k start)
  later start end (Some n) fails is = record {
    low = let l = is.low in omega arith;
    high = is.high;
    passes = is.passes;
    none_before = λ k l h. ⊎_elim (λ (e : k ≡ start). ap test e ∙ fails) (λ (ne : k ≡ start → ⊥). is.none_before k (omega arith) h) (cases_eq k start);
  }

  pub finds : (left start end : ℕ) → start + left ≡ end → Finds start end (least_from test left start)
  unfolding least_from
  finds zero start end e = λ k l h. absurd (omega arith)
  finds (suc left) start end e = step (test start) refl (finds left (start + 1) end (omega arith))
    where
      step : (b : Bool) → test start ≡ b → Finds (start + 1) end (least_from test left (start + 1)) → Finds start end (if b then Some start else least_from test left (start + 1))
      step true is rest = record { low = omega arith; high = omega arith; passes = is; none_before = λ k l h. absurd (omega arith) }
      step false is rest = later start end (least_from test left (start + 1)) is rest

  -- there is one such answer
  pub same_finds : (start end : ℕ) (o p : Option ℕ) → Finds start end o → Finds start end p → o ≡ p
  same_finds start end None None a b = refl
  same_finds start end None (Some n) a b = absurd (true≢false (sym b.passes ∙ a n b.low b.high))
  same_finds start end (Some m) None a b = absurd (true≢false (sym a.passes ∙ b m a.low a.high))
  same_finds start end (Some m) (Some n) a b =
      ⊎_elim
      (λ (l : m < n). absurd (true≢false (sym a.passes ∙ b.none_before m a.low l)))
      (λ (g : n ≤ m). ⊎_elim (λ (e : n ≡ m). ap (λ k. Some k) (sym e)) (λ (ne : n ≡ m → ⊥). absurd (true≢false (sym b.passes ∙ a.none_before n b.low (omega arith)))) (cases_eq n m))
      (cases_lt m n)
