-- What is kept beside attachments, and what is known of them.
use Rattle.std.specs.Prelude.{◌≡◌, ◌≤◌, ℕ, List, Option, Some, None, unwrap_or}
use Rattle.std.specs.BTreeMap as tree
use Rattle.std.specs.Map.{lookup}
use Rattle.std.specs.Ordering.{nat_cmp}
use Rattle.shm_seg.specs.Attachments.{Attached, attach_count, attachment_at, shmseg}

-- the count kept for a segment
abbrev pub counted_at : List (ℕ × ℕ) → ℕ → ℕ
counted_at counts segment = unwrap_or (lookup (tree.is_at (nat_cmp segment)) counts) 0

-- numbers are in range, and the counts are those of the attachments
pub record AreKept (m : Attached) (counts : List (ℕ × ℕ)) : Type 0 where
  pub numbered : (client number : ℕ) → shmseg ≤ number → attachment_at m client number ≡ None
  pub counted : (segment : ℕ) → counted_at counts segment ≡ attach_count m segment

-- where a walk over the numbers stands: all below are done
abbrev pub reached : Option ℕ → ℕ
reached None = shmseg
reached (Some number) = number
