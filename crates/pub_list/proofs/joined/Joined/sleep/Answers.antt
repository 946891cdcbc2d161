use Rattle.std.proofs.Common.{ap, arith}
use Rattle.pub_rule.proofs.Numbers.{state_within}
use Rattle.pub_list.proofs.joined.Joined.sleep.Goals as goal

pub park_timeout-requires : goal.park_timeout-requires
park_timeout-requires g c = let self = c.args.self.now in let list = c.args.list.now in let sized = list.sized.0 in let slots = list.sized.1 in let word = c.state_word.ensures in let at = ap (λ z. z.slots) c.requires in
    let small = self.own.small in let within = state_within self.client list.clients (omega arith) in omega arith
