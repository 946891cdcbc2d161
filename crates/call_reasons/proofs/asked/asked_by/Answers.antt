use Rattle.std.proofs.Common.{◌≡◌, subst, sym, ◌∙◌}
use Rattle.call_reasons.proofs.AskedNeeds.{if-needed}
use Rattle.call_reasons.proofs.asked.asked_by.Goals as goal

pub returns-clause-needed : goal.returns-clause-needed
returns-clause-needed c = λ s client. if-needed s client c.args.call.now c.asked_at.result c.asked_at.ensures
