use Rattle.std.proofs.Common.{sym, true, subst, ◌∙◌, List, of_z, to_z, w64}
use Rattle.msg_queue.specs.declared.types.Row.{Row}
use Rattle.msg_queue.specs.Types.{IsSpot}
use Rattle.msg_queue.proofs.Rows.{place_of_row}
use Rattle.msg_queue.proofs.types.Types.seek.Goals as goal

pub returns-then-is_row_at-clause-spot : goal.returns-then-is_row_at-clause-spot
returns-then-is_row_at-clause-spot c =
    let shown = c.live-rows.result.now in
    let test = sym c.is_row_at.ensures ∙ c.if-is_row_at.true in
    subst (λ (rows : List Row). IsSpot rows (record { mtype = to_z w64 (of_z w64 c.args.mtype); at = c.self.inside.recent; is_there = true })) c.live-rows.ensures.rows
    (record { rising = c.live-rows.ensures.rising; place = place_of_row shown c.self.inside.recent (to_z w64 (of_z w64 c.args.mtype)) c.live-rows.ensures.rising test; is_there = sym test })
