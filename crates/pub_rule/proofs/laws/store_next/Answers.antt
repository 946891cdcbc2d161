use Rattle.pub_rule.proofs.Tables.{store_next}
use Rattle.pub_rule.proofs.laws.store_next.Goals as goal

pub returns : goal.returns
returns g c = λ n. store_next n (g.P.Half.serves n) (g.P.Half.independent n) (g.P.Half.sized n)
