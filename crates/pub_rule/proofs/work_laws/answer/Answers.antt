use Rattle.pub_rule.proofs.Answering.{answer}
use Rattle.pub_rule.proofs.work_laws.answer.Goals as goal

pub returns : goal.returns
returns g c = λ n. answer g.S.Served n
