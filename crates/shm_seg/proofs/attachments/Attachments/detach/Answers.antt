use Rattle.std.proofs.Common.{◌∙◌, subst, sym}
use Rattle.shm_seg.specs.Inside.{AreKept}
use Rattle.shm_seg.proofs.Changes.{detached_none}
use Rattle.shm_seg.proofs.Kept.{gone_kept, there_positive}
use Rattle.shm_seg.proofs.attachments.Attachments.detach.Goals as goal

pub invariant_of-self : goal.invariant_of-self
invariant_of-self c =
    let m = c.self.inside.attached in
    subst (λ n. AreKept n c.self.inside.counts.entries) (sym (c.remove.ensures.left ∙ detached_none m c.args.client c.args.number (sym c.remove.ensures.value ∙ c.in-None.is))) c.self.invariant

pub lower-requires : goal.lower-requires
lower-requires c =
    there_positive c.self.inside.attached c.self.inside.counts.entries c.self.invariant c.args.client c.args.number c.in-Some.attachment (sym c.remove.ensures.value ∙ c.in-Some.is)

pub invariant_of-self-in-Some : goal.invariant_of-self-in-Some
invariant_of-self-in-Some c =
    subst (λ n. AreKept n c.lower.new.counts.entries) (sym c.remove.ensures.left)
    (gone_kept c.self.inside.attached c.self.inside.counts.entries c.self.invariant c.args.client c.args.number c.in-Some.attachment (sym c.remove.ensures.value ∙ c.in-Some.is) c.lower.new.counts.entries c.lower.ensures)
