use Rattle.pub_rule.proofs.Parking.{park}
use Rattle.pub_rule.proofs.work_laws.mark_parked.Goals as goal

pub returns : goal.returns
returns g c = λ n. park g.S.Served n
