use Rattle.pub_rule.proofs.Clientwork.{fetch}
use Rattle.pub_rule.proofs.work_laws.fetch.Goals as goal

pub returns : goal.returns
returns g c = λ n. fetch g.S.Served n
