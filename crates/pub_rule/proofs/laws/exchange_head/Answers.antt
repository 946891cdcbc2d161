use Rattle.pub_rule.proofs.Tables.{exchange_head}
use Rattle.pub_rule.proofs.laws.exchange_head.Goals as goal

pub returns : goal.returns
returns g c = λ n. exchange_head n (g.P.Half.serves n) (g.P.Half.independent n) (g.P.Half.sized n)
