use Rattle.pub_rule.proofs.Endings.{end}
use Rattle.pub_rule.proofs.work_laws.end.Goals as goal

pub returns : goal.returns
returns g c = λ n. end g.S.Served n
