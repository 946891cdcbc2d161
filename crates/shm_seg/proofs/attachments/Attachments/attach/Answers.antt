use Rattle.std.proofs.Common.{◌∙◌, ap, arith, subst, sym}
use Rattle.std.specs.FinMap as finite
use Rattle.client_map.specs.Keys.{key}
use Rattle.client_map.proofs.Orders.{gone_put, key_same, key_total}
use Rattle.shm_seg.specs.Attachments.{attachment_at, with_attachment}
use Rattle.shm_seg.specs.Inside.{AreKept}
use Rattle.shm_seg.proofs.Counts.{count_most}
use Rattle.shm_seg.proofs.Kept.{put_kept}
use Rattle.shm_seg.proofs.attachments.Attachments.attach.Goals as goal

pub raise-requires : goal.raise-requires
raise-requires c =
    omega (arith, count_most c.self.inside.attached c.args.attachment.segment, c.self.invariant.counted c.args.attachment.segment, c.len.ensures.len, c.len.ensures.small)

-- what was attached is taken out again
pub returns-in-Err-clause-err : goal.returns-in-Err-clause-err
returns-in-Err-clause-err c =
    let k = key c.args.client c.args.number in
    let none = ap (λ m. attachment_at m c.args.client c.args.number) c.self.view_is ∙ c.requires.free in
    c.remove.ensures.left
    ∙ ap (λ m. finite.remove m k) c.in_ok-insert.ensures.ok
    ∙ gone_put key_total key_same c.self.inside.attached k c.args.attachment none
    ∙ c.self.view_is

pub invariant_of-self-in-Err : goal.invariant_of-self-in-Err
invariant_of-self-in-Err c =
    subst (λ m. AreKept m c.raise.new.counts.entries) (c.self.view_is ∙ sym (returns-in-Err-clause-err c))
    (subst (λ es. AreKept c.self.inside.attached es) (sym c.in-Err.ensures.err) c.self.invariant)

pub invariant_of-self-in-Ok : goal.invariant_of-self-in-Ok
invariant_of-self-in-Ok c =
    let none = ap (λ m. attachment_at m c.args.client c.args.number) c.self.view_is ∙ c.requires.free in
    subst (λ m. AreKept m c.raise.new.counts.entries) (sym c.in_ok-insert.ensures.ok)
    (put_kept c.self.inside.attached c.self.inside.counts.entries c.self.invariant c.args.client c.args.number c.args.attachment c.requires.number none c.raise.new.counts.entries c.in-Ok.ensures.ok)

pub returns-in-Ok-clause-ok : goal.returns-in-Ok-clause-ok
returns-in-Ok-clause-ok c =
    c.in_ok-insert.ensures.ok ∙ ap (λ m. with_attachment m c.args.client c.args.number c.args.attachment) c.self.view_is
