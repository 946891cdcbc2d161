use Rattle.life_laws.proofs.Waiting.{answered-waits, others-wait, unanswered-waits}
use Rattle.life_laws.proofs.few_clients_come_to_wait.Goals as goal

pub returns-clause-others : goal.returns-clause-others
returns-clause-others c = others-wait

pub returns-clause-answered : goal.returns-clause-answered
returns-clause-answered c = answered-waits

pub returns-clause-unanswered : goal.returns-clause-unanswered
returns-clause-unanswered c = unanswered-waits
