use Rattle.std.proofs.Common.{sym}
use Rattle.call_reasons.proofs.LastEvent.{found}
use Rattle.call_reasons.proofs.cases.latest_in.Goals as goal

pub returns-in-Called : goal.returns-in-Called
returns-in-Called c =
    sym (found c.args.rows.now c.loop-row.left.now c.in-Some.others.now c.in-Some.row.now c.in-Called.client c.in-Called.now c.in-Called.call c.loop-row.invariant c.in-Some.ensures.cases.0 c.in-Called.is)
