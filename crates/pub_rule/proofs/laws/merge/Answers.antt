use Rattle.pub_rule.proofs.Tables.{merge_token}
use Rattle.pub_rule.proofs.laws.merge.Goals as goal

pub returns : goal.returns
returns g c = λ n. merge_token n (g.P.Half.serves n)
