use Rattle.pub_rule.proofs.Tables.{split_token}
use Rattle.pub_rule.proofs.laws.split_token.Goals as goal

pub returns : goal.returns
returns g c = λ n. split_token n (g.P.Half.serves n)
