use Rattle.std.proofs.Common.{ap, arith}
use Rattle.pub_counter.specs.Counter.{total, total_more}
use Rattle.pub_counter.proofs.counter.Counter.add.Goals as goal

pub invariant_of-self : goal.invariant_of-self
invariant_of-self c = let was = c.args.self.now.summed in let more = total_more c.args.self.now.turns.items (record { client = c.args.client; amount = c.args.amount }) in let items = ap total c.in-Ok.ensures.items in let sum = c.in_ok-sum.ensures.1 in
    record { summed = omega arith }
