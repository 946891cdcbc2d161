use Rattle.pub_rule.proofs.Resuming.{refuse}
use Rattle.pub_rule.proofs.work_laws.answer_memory.Goals as goal

pub returns : goal.returns
returns g c = λ n. refuse g.S.Served n
