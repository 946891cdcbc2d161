use Rattle.std.proofs.Common.{ap, sym, ◌∙◌}
use Rattle.thread_ends.specs.Leaving.{detached_part, detached_row}
use Rattle.thread_ends.proofs.ends.detached_on.Goals as goal

pub returns-in-Segment : goal.returns-in-Segment
returns-in-Segment c =
    c.detached_by.ensures ∙ ap (λ n. detached_part c.in-Segment.object.id n c.in-Segment.is_marked c.in-Segment.nattch) c.count_of.ensures
    ∙ ap (detached_row c.args.segments.now) (sym c.in-Segment.is)
