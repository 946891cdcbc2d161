use Rattle.std.proofs.Common.{◌∙◌, ap}
use Rattle.shm_seg.specs.Attachments.{first_number}
use Rattle.shm_seg.proofs.Numbers.{first_is}
use Rattle.shm_seg.proofs.attachments.Attachments.first.Goals as goal

pub returns-clause-first : goal.returns-clause-first
returns-clause-first c =
    c.narrow.ensures
    ∙ first_is c.self.inside.attached c.args.client c.first.result (c.self.invariant.numbered c.args.client) c.first.ensures.none c.first.ensures.there c.first.ensures.least
    ∙ ap (λ m. first_number m c.args.client) c.self.view_is
