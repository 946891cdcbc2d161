use Rattle.pub_rule.proofs.Resuming.{resume}
use Rattle.pub_rule.proofs.work_laws.take_parked.Goals as goal

pub returns : goal.returns
returns g c = λ n. resume g.S.Served n
