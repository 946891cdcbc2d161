use Rattle.std.proofs.Common.{◌∙◌, ap}
use Rattle.call_reasons.specs.Cases.{last_event}
use Rattle.call_reasons.proofs.LastEvent.{latest}
use Rattle.call_reasons.proofs.cases.latest_event.Goals as goal

pub returns : goal.returns
returns c = λ h e is. c.latest_in.ensures ∙ ap last_event c.journal.ensures.rows ∙ latest h c.args.space.now e is
