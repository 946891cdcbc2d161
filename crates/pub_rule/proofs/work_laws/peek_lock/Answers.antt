use Rattle.pub_rule.proofs.Locking.{peek_lock}
use Rattle.pub_rule.proofs.work_laws.peek_lock.Goals as goal

pub returns : goal.returns
returns g c = λ n. peek_lock g.S.Served n
