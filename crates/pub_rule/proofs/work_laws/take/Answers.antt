use Rattle.pub_rule.proofs.Combiner.{take}
use Rattle.pub_rule.proofs.work_laws.take.Goals as goal

pub returns : goal.returns
returns g c = λ n. take g.S.Served n
