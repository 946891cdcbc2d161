use Rattle.pub_rule.proofs.Tables.{load_head}
use Rattle.pub_rule.proofs.laws.load_head.Goals as goal

pub returns : goal.returns
returns g c = λ n. load_head n (g.P.Half.serves n) (g.P.Half.independent n) (g.P.Half.sized n)
