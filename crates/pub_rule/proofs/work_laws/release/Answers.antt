use Rattle.pub_rule.proofs.Locking.{release}
use Rattle.pub_rule.proofs.work_laws.release.Goals as goal

pub returns : goal.returns
returns g c = λ n. release g.S.Served n
