use Rattle.std.proofs.Common.{arith}
use Rattle.pub_rule.proofs.Numbers.{lock_within}
use Rattle.pub_list.proofs.Working.{is_client}
use Rattle.pub_list.proofs.Seizing.{lock_peeks, peeked_joined}
use Rattle.pub_list.proofs.joined.Joined.holder.Goals as goal

pub load-found-requires : goal.load-found-requires
load-found-requires g c = let self = c.args.self.now in let list = c.args.list.now in let sized = list.sized.0 in let word = c.lock_word.ensures in let within = lock_within list.clients in
    (c.requires.list, omega arith, lock_peeks g.S.Served _ _ _ _ _ self.client word (is_client self.client _ _ _ self.own.working) c.requires.unheld)

pub invariant_of-self : goal.invariant_of-self
invariant_of-self g c = let self = c.args.self.now in let did = c.load-found.ensures in record { own = peeked_joined self.client _ c.load-found.result self.seat c.load-found.new.seat self.own did.2 did.0 }
