use Rattle.std.proofs.Common.{ap, arith}
use Rattle.pub_rule.proofs.Numbers.{state_within}
use Rattle.pub_list.proofs.Seats.{told_still}
use Rattle.pub_list.proofs.Looking.{word_loads}
use Rattle.pub_list.proofs.joined.Joined.look_at.Goals as goal

pub load-requires : goal.load-requires
load-requires g c = let self = c.args.self.now in let list = c.args.list.now in let sized = list.sized.0 in let within = state_within c.args.client list.clients c.requires.client in let word = c.state_word.ensures in let key = list.sized.2 in let small = c.requires.client in
    (c.requires.list, omega arith, word_loads g.S.Served _ _ _ _ _ c.args.client word (omega arith))

pub invariant_of-self : goal.invariant_of-self
invariant_of-self g c = let self = c.args.self.now in let did = c.load.ensures in record { own = told_still self.client self.seat c.load.new.seat self.own did.0 did.2.1 }

pub returns-clause-view : goal.returns-clause-view
returns-clause-view g c = ap (λ m. m.0) c.load.ensures.2.1
