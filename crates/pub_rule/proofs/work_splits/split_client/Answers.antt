use Rattle.pub_rule.proofs.Splitting.{make_client}
use Rattle.pub_rule.proofs.work_splits.split_client.Goals as goal

pub returns : goal.returns
returns g c = λ n. make_client g.S.Served n
