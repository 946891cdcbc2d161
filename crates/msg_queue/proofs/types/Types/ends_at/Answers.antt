use Rattle.std.proofs.Common.{sym, ap, ◌∙◌, List}
use Rattle.msg_queue.specs.declared.types.Row.{Row}
use Rattle.std.specs.Prelude.{slice_get}
use Rattle.msg_queue.specs.Types.{ends_here}
use Rattle.msg_queue.proofs.Rows.{none_here, some_here}
use Rattle.msg_queue.proofs.types.Types.ends_at.Goals as goal

pub returns-then-spot : goal.returns-then-spot
returns-then-spot c =
    let spot = c.args.spot in
    c.ends_in_row.ensures ∙ ap (λ (rows : List Row). ends_here (slice_get rows spot.at)) c.live.ensures.rows
    ∙ sym (some_here c.args.self.now.rows spot.mtype spot.at c.requires.rising c.requires.place (sym c.requires.is_there ∙ c.if-spot.true))

pub returns-else-spot : goal.returns-else-spot
returns-else-spot c =
    let spot = c.args.spot in
    c.none.ensures ∙ sym (none_here c.args.self.now.rows spot.mtype spot.at c.requires.rising c.requires.place (sym c.requires.is_there ∙ c.if-spot.false))
