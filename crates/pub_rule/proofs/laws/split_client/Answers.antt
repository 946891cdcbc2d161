use Rattle.pub_rule.proofs.Tables.{split_client}
use Rattle.pub_rule.proofs.laws.split_client.Goals as goal

pub returns : goal.returns
returns g c = λ n. split_client n (g.P.Half.serves n)
