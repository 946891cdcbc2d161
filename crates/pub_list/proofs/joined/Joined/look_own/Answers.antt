use Rattle.std.proofs.Common.{ap, subst, sym, arith}
use Rattle.pub_rule.proofs.Numbers.{state_within}
use Rattle.pub_list.specs.Records.{IsLooked}
use Rattle.pub_list.proofs.Working.{is_client}
use Rattle.pub_list.proofs.Looking.{own_loads, looks, looked_joined}
use Rattle.pub_list.proofs.joined.Joined.look_own.Goals as goal

pub load-requires : goal.load-requires
load-requires g c = let self = c.args.self.now in let list = c.args.list.now in let sized = list.sized.0 in let slots = list.sized.1 in let at = ap (λ z. z.slots) c.requires.list in let small = self.own.small in let within = state_within self.client list.clients (omega arith) in let word = c.state_word.ensures in
    (c.requires.list, omega arith, own_loads g.S.Served _ _ _ _ _ self.client word (is_client self.client _ _ _ self.own.working))

pub invariant_of-self : goal.invariant_of-self
invariant_of-self g c = let self = c.args.self.now in let did = c.load.ensures in record { own = looked_joined g.S.Served self.client c.load.result self.seat c.load.new.seat self.own did.2 did.0 }

pub returns-clause-own : goal.returns-clause-own
returns-clause-own g c = let self = c.args.self.now in let did = c.load.ensures in subst (IsLooked g.S.Served.legal g.S.Served.own g.S.Served.replies self.client self.seat.me.0 c.load.new.seat.me.0) (sym c.state_of.ensures)
    (looks g.S.Served self.client c.load.result self.seat c.load.new.seat self.own did.2)
