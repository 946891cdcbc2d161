use Rattle.pub_rule.proofs.Combiner.{peek}
use Rattle.pub_rule.proofs.work_laws.peek.Goals as goal

pub returns : goal.returns
returns g c = λ n. peek g.S.Served n
