use Rattle.call_reasons.proofs.AskedNeeds.{if-controlled}
use Rattle.call_reasons.proofs.asked.controlled_by.Goals as goal

pub returns-clause-needed : goal.returns-clause-needed
returns-clause-needed c = λ s client. if-controlled s client c.args.call.now c.controlled_at.result c.controlled_at.ensures
