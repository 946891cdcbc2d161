use Rattle.pub_rule.proofs.Resuming.{hand}
use Rattle.pub_rule.proofs.work_laws.answer_parked.Goals as goal

pub returns : goal.returns
returns g c = λ n. hand g.S.Served n
