use Rattle.pub_rule.proofs.Clientwork.{watch}
use Rattle.pub_rule.proofs.work_laws.watch.Goals as goal

pub returns : goal.returns
returns g c = λ n. watch g.S.Served n
