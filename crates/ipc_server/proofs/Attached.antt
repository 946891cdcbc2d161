-- Whether a process has something attached.
use Rattle.std.proofs.Common.{◌≡◌, ℕ, zero, suc, ◌+◌, ◌<◌, ◌≤◌, Bool, true, false, Option, Some, None, refl, sym, ap, ◌∙◌, arith, get_or, length}
use Rattle.std.specs.Prelude.{is_some, IfNone, IfSome, IsSome}
use Rattle.ipc_model.specs.State.{State, process_at}
use Rattle.ipc_server.specs.Lives.{has_any}
use Rattle.shm_seg.specs.Attachments.{attachment_at}
use Rattle.std.specs.List.{list_any, range_with_len}
use Rattle.std.proofs.lemmas.List.Folds.{list_any_at}
use Rattle.std.proofs.lemmas.List.FromFn.{get_or-range_with_len, length-range_with_len}

none_any : (p : ℕ → Bool) (a n : ℕ) → ((k : ℕ) → p k ≡ false) → list_any p (range_with_len a n) ≡ false
none_any p a zero fails = refl
none_any p a (suc n) fails = rw (fails a) (none_any p (a + 1) n fails)

-- none has a number
pub no_number : {X : Type 0} (f : ℕ → Option X) (n : ℕ) → ((k : ℕ) → 0 ≤ k → f k ≡ None) → list_any (λ k. is_some (f k)) (range_with_len 0 n) ≡ false
no_number f n none = none_any (λ k. is_some (f k)) 0 n (λ k. ap is_some (none k (omega arith)))

-- one has
pub a_number : {X : Type 0} (f : ℕ → Option X) (n k : ℕ) → k < n → IsSome (f k) → list_any (λ k. is_some (f k)) (range_with_len 0 n) ≡ true
a_number f n k below there =
    let count = length-range_with_len 0 n in
    let plain : 0 + k ≡ k = omega arith in
    let here : get_or (range_with_len 0 n) k 0 ≡ k = get_or-range_with_len 0 n k 0 below ∙ plain in
    let there_is : is_some (f k) ≡ true = there in
    list_any_at (λ k. is_some (f k)) (range_with_len 0 n) k 0 (omega (arith, below, count))
    (ap (λ (i : ℕ). is_some (f i)) here ∙ there_is)

-- the least number tells whether there is one
pub tells_any : (s : State) (client : ℕ) (least : Option ℕ)
    → IfNone least ((n : ℕ) → 0 ≤ n → attachment_at s.shared.attached (process_at s client) n ≡ None)
    → IfSome least (λ k. IsSome (attachment_at s.shared.attached (process_at s client) k))
    → IfSome least (λ k. k < 4096) → is_some least ≡ has_any s client
unfolding has_any
tells_any s client None none there few = sym (no_number (λ n. attachment_at s.shared.attached (process_at s client) n) 4096 none)
tells_any s client (Some k) none there few = sym (a_number (λ n. attachment_at s.shared.attached (process_at s client) n) 4096 k few there)
