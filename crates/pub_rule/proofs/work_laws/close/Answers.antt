use Rattle.pub_rule.proofs.Closings.{close}
use Rattle.pub_rule.proofs.work_laws.close.Goals as goal

pub returns : goal.returns
returns g c = λ n. close g.S.Served n
