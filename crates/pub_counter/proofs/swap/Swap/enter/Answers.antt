use Rattle.std.proofs.Common.{◌∙◌, sym}
use Rattle.pub_counter.specs.Swap.{alone_more, alone_less}
use Rattle.pub_counter.proofs.swap.Swap.enter.Goals as goal

pub push-requires : goal.push-requires
push-requires c = sym (alone_more c.args.self.now.turns.items (record { client = c.args.client; amount = c.args.amount }) (sym c.args.self.now.last ∙ c.in-None.is))

pub push-requires-in-Some : goal.push-requires-in-Some
push-requires-in-Some c = sym (alone_less c.args.self.now.turns.items (record { client = c.args.client; amount = c.args.amount }) _ (sym c.args.self.now.last ∙ c.in-Some.is))
