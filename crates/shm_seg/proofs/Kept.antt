-- The counts that are kept beside the attachments.
use Rattle.std.proofs.Common.{◌≡◌, ◌∙◌, ℕ, ◌+◌, ◌<◌, ◌≤◌, ap, arith, refl, sym, Bool, true, false, cond, List, []}
use Rattle.std.specs.Prelude.{◌==◌, Some, None}
use Rattle.std.specs.Ordering.{is_eq}
use Rattle.std.specs.FinMap as finite
use Rattle.client_map.specs.Keys.{key, key_cmp}
use Rattle.client_map.proofs.Orders.{equal_keys, key_same, key_total, settled}
use Rattle.shm_seg.specs.Attachments.{Attached, Attachment, attachment_at, attach_count, handle_cmp, none_attached, with_attachment, without_attachment}
use Rattle.shm_seg.specs.Inside.{AreKept, counted_at}
use Rattle.shm_seg.proofs.Counts.{count_inserted, count_most, count_positive, count_removed}

pub count_of_none : (segment : ℕ) → attach_count none_attached segment ≡ 0
count_of_none segment = omega (arith, count_most none_attached segment, finite.len-empty handle_cmp Attachment)

pub none_kept : AreKept none_attached []
none_kept = record { numbered = λ c n far. finite.get-empty _ (key c n); counted = λ segment. sym (count_of_none segment) }

module _ (m : Attached) (counts : List (ℕ × ℕ)) (kept : AreKept m counts) (client number : ℕ) (a : Attachment) where
  pub put_kept : number < 4096 → attachment_at m client number ≡ None → (counts' : List (ℕ × ℕ)) → ((s : ℕ) → counted_at counts' s ≡ counted_at counts s + cond (a.segment == s) 1 0) → AreKept (with_attachment m client number a) counts'
  put_kept few none counts' raised = record {
    numbered = λ c n far. finite.get-insert key_total m (key client number) a (key c n) ∙ by c n far (is_eq (key_cmp (key c n) (key client number))) refl;
    counted = λ s. raised s ∙ ap (λ n. n + cond (a.segment == s) 1 0) (kept.counted s) ∙ sym (count_inserted m (key client number) a s none);
  }
    where
      by : (c n : ℕ) → 4096 ≤ n → (b : Bool) → is_eq (key_cmp (key c n) (key client number)) ≡ b → cond b (Some a) (attachment_at m c n) ≡ None
      by c n far true is = absurd (let e = ap (λ k. k.number) (equal_keys key_total key_same (key c n) (key client number) is) in omega arith)
      by c n far false is = kept.numbered c n far

  pub there_positive : attachment_at m client number ≡ Some a → 0 < counted_at counts a.segment
  there_positive there = omega (arith, count_positive m (key client number) a a.segment there refl, kept.counted a.segment)

  pub gone_kept : attachment_at m client number ≡ Some a → (counts' : List (ℕ × ℕ)) → ((s : ℕ) → counted_at counts s ≡ counted_at counts' s + cond (a.segment == s) 1 0) → AreKept (without_attachment m client number) counts'
  gone_kept there counts' lowered = record {
    numbered = λ c n far. finite.get-remove key_total m (key client number) (key c n) ∙ settled (is_eq (key_cmp (key c n) (key client number))) None (attachment_at m c n) (λ _. sym (kept.numbered c n far)) ∙ kept.numbered c n far;
    counted = λ s. same_count _ _ (a.segment == s) (sym (lowered s) ∙ kept.counted s ∙ count_removed m (key client number) a s there);
  }
    where
      same_count : (x y : ℕ) (b : Bool) → x + cond b 1 0 ≡ y + cond b 1 0 → x ≡ y
      same_count x y b e = omega arith
