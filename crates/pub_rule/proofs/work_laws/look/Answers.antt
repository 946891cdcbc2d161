use Rattle.pub_rule.proofs.Clientwork.{look}
use Rattle.pub_rule.proofs.work_laws.look.Goals as goal

pub returns : goal.returns
returns g c = λ n. look g.S.Served n
