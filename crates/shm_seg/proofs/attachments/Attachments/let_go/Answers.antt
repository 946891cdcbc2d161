use Rattle.std.proofs.Common.{◌∙◌, ap, None}
use Rattle.shm_seg.specs.Attachments.{Attached, attachment_at}
use Rattle.shm_seg.proofs.Changes.{detached_apart, detached_here}
use Rattle.shm_seg.proofs.Copies.{put-more}
use Rattle.shm_seg.proofs.attachments.Attachments.let_go.Goals as goal

pub loop-number-preserved : goal.loop-number-preserved
loop-number-preserved c =
    let now = c.loop-number.self in
    let k = c.loop-number.number in
    put-more c.args.client (λ _. None) c.args.self.now k now c.detach.new.self c.loop-number.invariant
    (ap (λ (m : Attached). attachment_at m c.args.client k) c.detach.ensures.left ∙ detached_here now c.args.client k)
    (λ p n apart. ap (λ (m : Attached). attachment_at m p n) c.detach.ensures.left ∙ detached_apart now c.args.client k p n apart)
