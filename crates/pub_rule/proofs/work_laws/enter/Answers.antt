use Rattle.pub_rule.proofs.Closings.{enter}
use Rattle.pub_rule.proofs.work_laws.enter.Goals as goal

pub returns : goal.returns
returns g c = λ n. enter g.S.Served n
