use Rattle.std.proofs.Common.{◌∙◌, ap}
use Rattle.shm_seg.specs.Attachments.{free_number}
use Rattle.shm_seg.proofs.Numbers.{free_is}
use Rattle.shm_seg.proofs.attachments.Attachments.free_number.Goals as goal

pub returns-clause-least : goal.returns-clause-least
returns-clause-least c =
    c.narrow.ensures
    ∙ free_is c.self.inside.attached c.args.client c.first_free.result c.first_free.ensures.below c.first_free.ensures.free c.first_free.ensures.least c.first_free.ensures.none
    ∙ ap (λ m. free_number m c.args.client) c.self.view_is
