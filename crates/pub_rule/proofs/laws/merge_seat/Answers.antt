use Rattle.pub_rule.proofs.Spending.{merge_seat}
use Rattle.pub_rule.proofs.laws.merge_seat.Goals as goal

pub returns : goal.returns
returns g c = λ n. merge_seat n (g.P.Half.serves n)
