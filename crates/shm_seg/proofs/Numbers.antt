-- The least number of a client that is taken, and the least that is free.
use Rattle.std.proofs.Common.{◌≡◌, ◌∙◌, ℕ, ◌<◌, ◌≤◌, ap, arith, refl, sym, ⊎_elim}
use Rattle.std.specs.Prelude.{Option, Some, None, not, is_none, is_some, IfNone, IfSome, IsSome}
use Rattle.std.proofs.lemmas.Bool.{cases_lt, true≢false}
use Rattle.shm_seg.specs.Attachments.{Attached, attachment_at, first_number, free_number}
use Rattle.shm_seg.proofs.Least.{finds, same_finds}

module _ (m : Attached) (client : ℕ) where
  pub first_is : (o : Option ℕ) → ((n : ℕ) → 4096 ≤ n → attachment_at m client n ≡ None)
      → IfNone o ((n : ℕ) → attachment_at m client n ≡ None)
      → IfSome o (λ n. IsSome (attachment_at m client n))
      → IfSome o (λ n. (k : ℕ) → k < n → attachment_at m client k ≡ None)
      → o ≡ first_number m client
  first_is None few none there least =
      same_finds (λ n. is_some (attachment_at m client n)) 0 4096 None _ (λ k l h. ap is_some (none k)) (finds _ 4096 0 4096 refl)
  first_is (Some n) few none there least =
      same_finds (λ n. is_some (attachment_at m client n)) 0 4096 (Some n) _ (record {
        low = omega arith;
        high = ⊎_elim (λ (l : n < 4096). l) (λ (g : 4096 ≤ n). absurd (true≢false (sym there ∙ ap is_some (few n g)))) (cases_lt n 4096);
        passes = there;
        none_before = λ k l h. ap is_some (least k h);
      }) (finds _ 4096 0 4096 refl)

  pub free_is : (o : Option ℕ)
      → IfSome o (λ n. n < 4096)
      → IfSome o (λ n. attachment_at m client n ≡ None)
      → IfSome o (λ n. (k : ℕ) → k < n → IsSome (attachment_at m client k))
      → IfNone o ((n : ℕ) → n < 4096 → IsSome (attachment_at m client n))
      → o ≡ free_number m client
  free_is None below free least none =
      same_finds (λ n. is_none (attachment_at m client n)) 0 4096 None _ (λ k l h. ap not (none k h)) (finds _ 4096 0 4096 refl)
  free_is (Some n) below free least none =
      same_finds (λ n. is_none (attachment_at m client n)) 0 4096 (Some n) _ (record { low = omega arith; high = below; passes = ap is_none free; none_before = λ k l h. ap not (least k h) }) (finds _ 4096 0 4096 refl)
