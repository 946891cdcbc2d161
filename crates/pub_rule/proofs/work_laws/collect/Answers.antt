use Rattle.pub_rule.proofs.Clientwork.{collect}
use Rattle.pub_rule.proofs.work_laws.collect.Goals as goal

pub returns : goal.returns
returns g c = λ n. collect g.S.Served n
