-- The exit of a client, attachment by attachment: the least number is detached, and then the rest.
use Rattle.std.proofs.Common.{◌≡◌, ◌∙◌, ℕ, zero, suc, ◌+◌, ◌<◌, ◌≤◌, ap, arith, refl, sym, cond, Bool, false, Option, Some, None, ⊎_elim}
use Rattle.std.specs.Prelude.{IsSome, is_some}
use Rattle.std.specs.FinMap as finite
use Rattle.std.proofs.lemmas.Bool.{cases_eq, true≢false}
use Rattle.client_map.specs.Keys.{key}
use Rattle.client_map.proofs.Orders.{key_total}
use Rattle.shm_seg.specs.declared.attachments.Attachment.{Attachment}
use Rattle.shm_seg.specs.Attachments.{Attached, attachment_at, first_number, without_attachment}
use Rattle.shm_seg.proofs.Changes.{attached_again, detached_apart, detached_here, detached_none, first_is_least, first_none}
use Rattle.ipc_objects.specs.declared.object.Object.{Object}
use Rattle.ipc_model.specs.State.{Caller, Segment, Shared}
use Rattle.ipc_model.specs.Segments.{after_detaches, detached, detached_from, left_segment, segment_at, without_number}

module _ (who : Caller) where
  -- nothing is attached under the number
  abbrev pub IsFree : Shared → ℕ → Type 0
  IsFree s number = attachment_at s.attached who.process number ≡ None

  -- where nothing is, a detach leaves everything
  pub detached-none : (s : Shared) (number : ℕ) → IsFree s number → detached s who number ≡ s
  detached-none s number free = ap (λ (o : Option Attachment). without_number s who number o) free

  -- what becomes of the segment changes nothing that is attached
  left-attached : (s : Shared) (id : ℕ) (o : Option (Object Segment)) → (left_segment s who id o).attached ≡ s.attached
  left-attached s id None = refl
  left-attached s id (Some segment) = refl

  -- what is attached after a detach
  attached-left : (s : Shared) (number : ℕ) → (detached s who number).attached ≡ without_attachment s.attached who.process number
  attached-left s number = by (attachment_at s.attached who.process number) refl
    where
      by : (o : Option Attachment) → attachment_at s.attached who.process number ≡ o → (without_number s who number o).attached ≡ without_attachment s.attached who.process number
      by None is = sym (detached_none s.attached who.process number is)
      by (Some a) is =
          left-attached (record s { attached = without_attachment s.attached who.process number }) a.segment (segment_at s a.segment)

  free-here : (s : Shared) (number : ℕ) → IsFree (detached s who number) number
  free-here s number =
      ap (λ (m : Attached). attachment_at m who.process number) (attached-left s number) ∙ detached_here s.attached who.process number

  free-apart : (s : Shared) (number other : ℕ) → (other ≡ number → ⊥) → IsFree s other → IsFree (detached s who number) other
  free-apart s number other ne free =
      ap (λ (m : Attached). attachment_at m who.process other) (attached-left s number)
      ∙ detached_apart s.attached who.process number who.process other (λ same. ne) ∙ free

  -- where nothing is attached under so many numbers from a start on, all stays
  from-none : (left start : ℕ) (s : Shared) → ((k : ℕ) → start ≤ k → k < start + left → IsFree s k) → detached_from left start who s ≡ s
  unfolding detached_from
  from-none zero start s free = refl
  from-none (suc left) start s free =
      ap (λ (x : Shared). detached_from left (start + 1) who x) (detached-none s start (free start (omega arith) (omega arith)))
      ∙ from-none left (start + 1) s (λ k low high. free k (omega arith) (omega arith))

  -- a detach under the least number that is taken comes before all others
  from-first : (left start n : ℕ) (s : Shared) → start ≤ n → n < start + left → ((k : ℕ) → start ≤ k → k < n → IsFree s k) → detached_from left start who (detached s who n) ≡ detached_from left start who s
  unfolding detached_from
  from-first zero start n s low high free = absurd (omega arith)
  from-first (suc left) start n s low high free = ⊎_elim
      (λ (same : start ≡ n).
      ap (λ (x : Shared). detached_from left (start + 1) who x)
      (ap (λ (k : ℕ). detached (detached s who n) who k) same ∙ detached-none (detached s who n) n (free-here s n) ∙ ap (λ (k : ℕ). detached s who k) (sym same)))
      (λ (ne : start ≡ n → ⊥).
      let here : IsFree s start = free start (omega arith) (omega arith) in
      ap (λ (x : Shared). detached_from left (start + 1) who x) (detached-none (detached s who n) start (free-apart s n start ne here))
      ∙ from-first left (start + 1) n s (omega arith) (omega arith) (λ k l h. free k (omega arith) h)
      ∙ ap (λ (x : Shared). detached_from left (start + 1) who x) (sym (detached-none s start here)))
      (cases_eq start n)

  free-of : (o : Option Attachment) → is_some o ≡ false → o ≡ None
  free-of None is = refl
  free-of (Some a) is = absurd (true≢false is)

  module _ (s : Shared) (number : ℕ) where
    -- the least number is detached, and then the rest
    pub exit-step : Some number ≡ first_number s.attached who.process → after_detaches (detached s who number) who ≡ after_detaches s who
    exit-step is =
        let least = first_is_least s.attached who.process number (sym is) in
        from-first 4096 0 number s least.low least.high (λ k low high. free-of (attachment_at s.attached who.process k) (least.none_before k low high))

    -- fewer attachments are left
    pub fewer : IsSome (attachment_at s.attached who.process number) → finite.len (detached s who number).attached < finite.len s.attached
    fewer there = by (attachment_at s.attached who.process number) refl there
      where
        by : (o : Option Attachment) → attachment_at s.attached who.process number ≡ o → IsSome o → finite.len (detached s who number).attached < finite.len s.attached
        by None is none = absurd (true≢false (sym none))
        by (Some a) is some =
            let left = without_attachment s.attached who.process number in
            let less = ap (λ (m : Attached). finite.len m) (attached-left s number) in
            let one = ap (λ (m : Attached). finite.len m) (sym (attached_again s.attached who.process number a is))
            ∙ finite.len-insert key_total left (key who.process number) a
            ∙ ap (λ (b : Bool). cond b (finite.len left) (finite.len left + 1)) (ap is_some (detached_here s.attached who.process number)) in
            omega arith

  -- no attachment is left
  pub exit-done : (s : Shared) → None ≡ first_number s.attached who.process → s ≡ after_detaches s who
  exit-done s none = sym (from-none 4096 0 s (λ k low high. first_none s.attached who.process (sym none) k (omega arith)))
