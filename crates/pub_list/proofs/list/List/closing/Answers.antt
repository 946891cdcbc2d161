use Rattle.std.proofs.Common.{arith}
use Rattle.pub_rule.proofs.Numbers.{head_within}
use Rattle.pub_rule.proofs.Closings.{enter}
use Rattle.pub_list.proofs.list.List.closing.Goals as goal

pub load_new_seat-closer-requires : goal.load_new_seat-closer-requires
load_new_seat-closer-requires g c = let list = c.args.self in let sized = list.sized.0 in let within = head_within list.clients in let word = c.head_word.ensures in (omega arith, enter g.S.Served _ _ _)
