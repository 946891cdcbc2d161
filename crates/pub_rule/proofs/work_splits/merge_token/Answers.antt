use Rattle.pub_rule.proofs.Splitting.{take_in}
use Rattle.pub_rule.proofs.work_splits.merge_token.Goals as goal

pub returns : goal.returns
returns g c = λ n. take_in g.S.Served n
