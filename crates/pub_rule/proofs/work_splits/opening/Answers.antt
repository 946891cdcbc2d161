use Rattle.pub_rule.proofs.Splitting.{opens}
use Rattle.pub_rule.proofs.work_splits.opening.Goals as goal

pub returns : goal.returns
returns g c = λ n. opens g.S.Served n
