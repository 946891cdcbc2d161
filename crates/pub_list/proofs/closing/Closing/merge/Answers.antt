use Rattle.std.proofs.Common.{arith}
use Rattle.pub_rule.proofs.Numbers.{head_within}
use Rattle.pub_rule.proofs.Closings.{close}
use Rattle.pub_list.proofs.closing.Closing.merge.Goals as goal

pub join_seat-requires : goal.join_seat-requires
join_seat-requires g c = let own = c.args.self.now.own in let sized = own.0.0 in let within = head_within c.args.self.now.clients in (
  own.1,
  c.requires.list,
  c.requires.home.1,
  omega arith,
  close g.S.Served _ _ _ _ _ own.2 c.requires.home.0 c.requires.unheld,
)
