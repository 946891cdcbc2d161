use Rattle.pub_rule.proofs.Tables.{load_next}
use Rattle.pub_rule.proofs.laws.load_next.Goals as goal

pub returns : goal.returns
returns g c = λ n. load_next n (g.P.Half.serves n) (g.P.Half.independent n) (g.P.Half.sized n)
