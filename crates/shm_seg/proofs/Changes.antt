-- What an attach and a detach change, and what they keep: for those who build on attachments.
use Rattle.std.proofs.Common.{◌≡◌, ◌∙◌, ℕ, ◌+◌, ◌<◌, ap, arith, refl, subst, sym, true, false, cond}
use Rattle.std.specs.Prelude.{◌==◌, not, Option, Some, None, is_none, is_some}
use Rattle.client_map.specs.declared.map.Key.{Key}
use Rattle.client_map.specs.Keys.{key}
use Rattle.client_map.proofs.Orders.{get_gone, get_gone_apart, get_put, get_put_apart, gone_none, key_same, key_total, put_gone}
use Rattle.shm_seg.specs.Attachments.{Attached, Attachment, attach_count, attachment_at, first_number, free_number, with_attachment, without_attachment}
use Rattle.shm_seg.proofs.Counts.{count_inserted, count_positive, count_removed}
use Rattle.shm_seg.proofs.Least.{Finds, IsLeast, finds}

-- another segment has one more or less of none
none_more : (n a b : ℕ) → (a ≡ b → ⊥) → n + cond (a == b) 1 0 ≡ n
none_more n a b ne = let e : (a == b) ≡ false = grind arith in ap (λ c. n + cond c 1 0) e ∙ (let z : n + 0 ≡ n = omega arith in z)

module _ (m : Attached) (client number : ℕ) (a : Attachment) (free : attachment_at m client number ≡ None) where
  pub attached_count : (segment : ℕ) → attach_count (with_attachment m client number a) segment ≡ attach_count m segment + cond (a.segment == segment) 1 0
  attached_count segment = count_inserted m (key client number) a segment free

  pub attached_count_other : (segment : ℕ) → (a.segment ≡ segment → ⊥) → attach_count (with_attachment m client number a) segment ≡ attach_count m segment
  attached_count_other segment ne = attached_count segment ∙ none_more (attach_count m segment) a.segment segment ne

module _ (m : Attached) (client number : ℕ) (a : Attachment) where
  pub attached_here : attachment_at (with_attachment m client number a) client number ≡ Some a
  attached_here = get_put key_total key_same m (key client number) a

  pub attached_apart : (c n : ℕ) → (c ≡ client → n ≡ number → ⊥) → attachment_at (with_attachment m client number a) c n ≡ attachment_at m c n
  attached_apart c n apart =
      get_put_apart key_total key_same m (key client number) a (key c n) (λ e. apart (ap (λ (k : Key). k.client) e) (ap (λ (k : Key). k.number) e))

module _ (m : Attached) (client number : ℕ) where
  pub detached_here : attachment_at (without_attachment m client number) client number ≡ None
  detached_here = get_gone key_total key_same m (key client number)

  pub detached_apart : (c n : ℕ) → (c ≡ client → n ≡ number → ⊥) → attachment_at (without_attachment m client number) c n ≡ attachment_at m c n
  detached_apart c n apart =
      get_gone_apart key_total key_same m (key client number) (key c n) (λ e. apart (ap (λ (k : Key). k.client) e) (ap (λ (k : Key). k.number) e))

  -- where nothing is, a detach leaves everything
  pub detached_none : attachment_at m client number ≡ None → without_attachment m client number ≡ m
  detached_none none = gone_none key_total key_same m (key client number) none

  module _ (a : Attachment) (there : attachment_at m client number ≡ Some a) where
    pub detached_count : (segment : ℕ) → attach_count m segment ≡ attach_count (without_attachment m client number) segment + cond (a.segment == segment) 1 0
    detached_count segment = count_removed m (key client number) a segment there

    pub detached_count_other : (segment : ℕ) → (a.segment ≡ segment → ⊥) → attach_count (without_attachment m client number) segment ≡ attach_count m segment
    detached_count_other segment ne =
        sym (detached_count segment ∙ none_more (attach_count (without_attachment m client number) segment) a.segment segment ne)

    -- a segment that something is attached to has a count
    pub there_counted : 0 < attach_count m a.segment
    there_counted = count_positive m (key client number) a a.segment there refl

    pub attached_again : with_attachment (without_attachment m client number) client number a ≡ m
    attached_again = put_gone key_total key_same m (key client number) a there

none_of_test : (o : Option Attachment) → is_none o ≡ true → o ≡ None
none_of_test None e = refl
none_of_test (Some a) e = absurd (let f : false ≡ true = e in cc)

module _ (m : Attached) (client : ℕ) where
  pub free_there : (n : ℕ) → free_number m client ≡ Some n → attachment_at m client n ≡ None
  free_there n e =
      none_of_test (attachment_at m client n) (subst (λ o. Finds (λ k. is_none (attachment_at m client k)) 0 4096 o) e (finds _ 4096 0 4096 refl)).passes

  pub first_is_least : (n : ℕ) → first_number m client ≡ Some n → IsLeast (λ k. is_some (attachment_at m client k)) 0 4096 n
  first_is_least n e = subst (λ o. Finds (λ k. is_some (attachment_at m client k)) 0 4096 o) e (finds _ 4096 0 4096 refl)

  pub first_none : first_number m client ≡ None → (n : ℕ) → n < 4096 → attachment_at m client n ≡ None
  first_none e n few =
      none_of_test (attachment_at m client n) (ap not (subst (λ o. Finds (λ k. is_some (attachment_at m client k)) 0 4096 o) e (finds _ 4096 0 4096 refl) n (omega arith) few))
