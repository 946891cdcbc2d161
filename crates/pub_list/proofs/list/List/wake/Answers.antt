use Rattle.std.proofs.Common.{arith}
use Rattle.pub_rule.proofs.Numbers.{state_within}
use Rattle.pub_list.proofs.list.List.wake.Goals as goal

pub wake_one-requires : goal.wake_one-requires
wake_one-requires g c = let list = c.args.self.now in let sized = list.sized.0 in let word = c.state_word.ensures in let within = state_within c.args.client list.clients (omega arith) in omega arith
