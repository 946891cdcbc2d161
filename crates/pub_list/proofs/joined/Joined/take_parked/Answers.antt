use Rattle.std.proofs.Common.{ap, arith}
use Rattle.pub_rule.proofs.Numbers.{state_within}
use Rattle.pub_list.proofs.Working.{is_client}
use Rattle.pub_list.proofs.Taking.{parked_takes, resumes, resumed_joined}
use Rattle.pub_list.proofs.joined.Joined.take_parked.Goals as goal

pub compare_exchange-requires : goal.compare_exchange-requires
compare_exchange-requires g c = let self = c.args.self.now in let list = c.args.list.now in let sized = list.sized.0 in let within = state_within c.args.client list.clients c.requires.client in let word = c.state_word.ensures in
    (c.requires.list, omega arith, parked_takes g.S.Served _ _ _ _ _ self.client c.args.client list.clients word list.sized.2 (is_client self.client _ _ _ self.own.working) c.requires.combines c.requires.client c.requires.owed)

pub invariant_of-self : goal.invariant_of-self
invariant_of-self g c = let self = c.args.self.now in let did = c.compare_exchange.ensures in record { own = resumed_joined g.S.Served self.client c.args.client c.state_word.result c.compare_exchange.result self.seat c.compare_exchange.new.seat self.own c.requires.combines c.state_word.ensures (let slots = c.args.list.now.sized.1 in let at = ap (λ z. z.slots) c.requires.list in let small = c.requires.client in omega arith) did.2 did.0 }

pub returns-clause-took : goal.returns-clause-took
returns-clause-took g c = let self = c.args.self.now in let did = c.compare_exchange.ensures in resumes g.S.Served self.client c.args.client c.state_word.result c.compare_exchange.result self.seat c.compare_exchange.new.seat self.own c.requires.combines c.state_word.ensures (let slots = c.args.list.now.sized.1 in let at = ap (λ z. z.slots) c.requires.list in let small = c.requires.client in omega arith) did.2
