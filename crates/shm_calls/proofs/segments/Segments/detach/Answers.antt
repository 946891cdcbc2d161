use Rattle.std.proofs.Common.{◌∙◌, ap, sym}
use Rattle.shm_seg.proofs.Changes.{detached_none}
use Rattle.shm_seg.specs.Attachments.{Attached, attachment_at}
use Rattle.shm_calls.proofs.Detaching.{detached-none}
use Rattle.shm_calls.proofs.segments.Segments.detach.Goals as goal

pub returns-in_default : goal.returns-in_default
returns-in_default c =
    let none = sym c.in_default.ensures.told in
    let free = (λ i. attachment_at (sym c.self.view_is i).attached (sym c.process.ensures i) c.args.number) ∙ none in
    ap (λ (m : Attached). record { segments = c.self.inside.segments; attached = m }) (c.in_default.ensures.left ∙ detached_none c.self.inside.attached c.process.result c.args.number none)
    ∙ c.self.view_is ∙ sym (detached-none c.args.who.now c.args.self.now c.args.number free)
