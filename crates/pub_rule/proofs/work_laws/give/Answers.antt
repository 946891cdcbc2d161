use Rattle.pub_rule.proofs.Clientwork.{give}
use Rattle.pub_rule.proofs.work_laws.give.Goals as goal

pub returns : goal.returns
returns g c = λ n. give g.S.Served n
