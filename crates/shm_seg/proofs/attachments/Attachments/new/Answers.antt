use Rattle.std.proofs.Common.{subst, sym}
use Rattle.shm_seg.specs.Attachments.{none_attached}
use Rattle.shm_seg.specs.Inside.{AreKept}
use Rattle.shm_seg.proofs.Kept.{none_kept}
use Rattle.shm_seg.proofs.attachments.Attachments.new.Goals as goal

pub invariant_of-result : goal.invariant_of-result
invariant_of-result c =
    subst (λ m. AreKept m c.new-2.result.entries) (sym c.new.ensures)
    (subst (λ counts. AreKept none_attached counts) (sym c.new-2.ensures.empty) none_kept)
