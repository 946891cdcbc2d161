use Rattle.pub_rule.proofs.Locking.{seize}
use Rattle.pub_rule.proofs.work_laws.seize.Goals as goal

pub returns : goal.returns
returns g c = λ n. seize g.S.Served n
