use Rattle.pub_rule.proofs.Splitting.{make_token}
use Rattle.pub_rule.proofs.work_splits.split_token.Goals as goal

pub returns : goal.returns
returns g c = λ n. make_token g.S.Served n
