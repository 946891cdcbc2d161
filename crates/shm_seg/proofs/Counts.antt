-- How many attachments are to a segment, after an attach and a detach.
use Rattle.std.proofs.Common.{◌≡◌, ◌∙◌, ℕ, ◌+◌, ◌<◌, ◌≤◌, ap, arith, refl, sym, Bool, true, cond, List, [], ◌∷◌}
use Rattle.std.specs.Prelude.{◌==◌, Some, None}
use Rattle.std.specs.declared.cmp.Ordering.{Ordering}
use Rattle.std.specs.declared.cmp.Ordering.TheVariants.{Less, Equal, Greater}
use Rattle.std.specs.Ordering.{is_eq}
use Rattle.std.specs.List.{count_by}
use Rattle.std.specs.Map.{values_of}
use Rattle.std.specs.FinMap as finite
use Rattle.std.specs.FinMap.Entries.{by_order}
use Rattle.std.proofs.lemmas.List.Sums.{count_by-le-length, sum_by-cons}
use Rattle.std.proofs.lemmas.Map.Entries.{length-values_of}
use Rattle.std.proofs.lemmas.Option.{none-some}
use Rattle.client_map.proofs.Orders.{get_gone, key_same, key_total, put_gone}
use Rattle.shm_seg.specs.Attachments.{Attached, Attachment, Handle, attach_count, handle_cmp}

-- no more are to a segment than there are
pub count_most : (m : Attached) (segment : ℕ) → attach_count m segment ≤ finite.len m
count_most m segment =
    omega (arith, count_by-le-length (λ (a : Attachment). a.segment == segment) (finite.values m), length-values_of (finite.entries m), finite.len-entries m)

-- one entry more, at a handle that is new
abbrev count : (Attachment → Bool) → List (Handle × Attachment) → ℕ
count p es = count_by p (values_of es)

counted : (p : Attachment → Bool) (e : Handle × Attachment) (es : List (Handle × Attachment)) → count p (e ∷ es) ≡ cond (p e.1) 1 0 + count p es
counted p e es = sum_by-cons (λ x. cond (p x) 1 0) e.1 (values_of es)

module _ (p : Attachment → Bool) (h : Handle) (a : Attachment) where
  put_step : (e : Handle × Attachment) (es : List (Handle × Attachment)) (r : Ordering) → cond (is_eq r) (Some e.1) (finite.find handle_cmp h es) ≡ None → (finite.find handle_cmp h es ≡ None → count p (finite.put handle_cmp h a es) ≡ count p es + cond (p a) 1 0) → count p (by_order r ((h, a) ∷ e ∷ es) ((e.0, a) ∷ es) (e ∷ finite.put handle_cmp h a es)) ≡ count p (e ∷ es) + cond (p a) 1 0
  put_step e es Less none rest =
      counted p (h, a) (e ∷ es) ∙ (let swap : (x y : ℕ) → x + y ≡ y + x = λ x y. omega arith in swap (cond (p a) 1 0) (count p (e ∷ es)))
  put_step e es Equal none rest = absurd (none-some e.1 (sym none))
  put_step e es Greater none rest =
      counted p e (finite.put handle_cmp h a es)
      ∙ ap (λ n. cond (p e.1) 1 0 + n) (rest none)
      ∙ (let joins : (x y z : ℕ) → x + (y + z) ≡ (x + y) + z = λ x y z. omega arith in joins (cond (p e.1) 1 0) (count p es) (cond (p a) 1 0))
      ∙ ap (λ n. n + cond (p a) 1 0) (sym (counted p e es))

  pub count_put : (es : List (Handle × Attachment)) → finite.find handle_cmp h es ≡ None → count p (finite.put handle_cmp h a es) ≡ count p es + cond (p a) 1 0
  count_put [] none = refl
  count_put (e ∷ es) none = put_step e es (handle_cmp h e.0) none (λ later. count_put es later)

-- after an attach at a handle that is free
pub count_inserted : (m : Attached) (h : Handle) (a : Attachment) (segment : ℕ) → finite.get m h ≡ None → attach_count (finite.insert m h a) segment ≡ attach_count m segment + cond (a.segment == segment) 1 0
count_inserted m h a segment none =
    ap (λ es. count_by (λ (x : Attachment). x.segment == segment) (values_of es)) (finite.entries-insert key_total m h a)
    ∙ count_put (λ x. x.segment == segment) h a (finite.entries m) (sym (finite.get-entries m h) ∙ none)

module _ (m : Attached) (h : Handle) where
  -- after a detach
  pub count_removed : (a : Attachment) (segment : ℕ) → finite.get m h ≡ Some a → attach_count m segment ≡ attach_count (finite.remove m h) segment + cond (a.segment == segment) 1 0
  count_removed a segment there =
      ap (λ n. attach_count n segment) (sym (put_gone key_total key_same m h a there))
      ∙ count_inserted (finite.remove m h) h a segment (get_gone key_total key_same m h)

  -- a segment that something is attached to has a count
  pub count_positive : (a : Attachment) (segment : ℕ) → finite.get m h ≡ Some a → a.segment ≡ segment → 0 < attach_count m segment
  count_positive a segment there same =
      let counted = count_removed a segment there in
      let one : (a.segment == segment) ≡ true = grind arith in
      let more : attach_count m segment ≡ attach_count (finite.remove m h) segment + 1 = counted ∙ ap (λ (b : Bool). attach_count (finite.remove m h) segment + cond b 1 0) one in
      omega arith
