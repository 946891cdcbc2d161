use Rattle.std.proofs.Common.{◌∙◌, ap, arith}
use Rattle.pub_rule.proofs.Numbers.{state_within}
use Rattle.pub_list.proofs.Working.{empty_put, is_client}
use Rattle.pub_list.proofs.Taking.{posted_takes, misses, missed_joined, holds_one, taken_joined}
use Rattle.pub_list.proofs.joined.Joined.take_posted.Goals as goal

pub compare_exchange-found-requires : goal.compare_exchange-found-requires
compare_exchange-found-requires g c = let self = c.args.self.now in let list = c.args.list.now in let sized = list.sized.0 in let within = state_within c.args.client list.clients c.requires.client in let word = c.state_word.ensures in
    (c.requires.list, omega arith, posted_takes g.S.Served _ _ _ _ _ self.client c.args.client list.clients word list.sized.2 (is_client self.client _ _ _ self.own.working) c.requires.combines c.requires.client)

pub invariant_of-self : goal.invariant_of-self
invariant_of-self g c = let self = c.args.self.now in let list = c.args.list.now in let did = c.compare_exchange-found.ensures in record { own = missed_joined g.S.Served self.client c.args.client c.state_word.result c.compare_exchange-found.result self.seat c.compare_exchange-found.new.seat self.own c.requires.combines c.state_word.ensures (let slots = c.args.list.now.sized.1 in let at = ap (λ z. z.slots) c.requires.list in let small = c.requires.client in omega arith) did.2 c.if-found-ne-POSTED.true did.0 }

pub exchange-requires : goal.exchange-requires
exchange-requires g c = let self = c.args.self.now in let list = c.args.list.now in let did = c.compare_exchange-found.ensures in (did.0 ∙ c.requires.list, holds_one g.S.Served self.client c.args.client c.state_word.result c.compare_exchange-found.result self.seat c.compare_exchange-found.new.seat self.own c.requires.combines c.state_word.ensures (let slots = c.args.list.now.sized.1 in let at = ap (λ z. z.slots) c.requires.list in let small = c.requires.client in omega arith) did.2 c.if-found-ne-POSTED.false)

pub invariant_of-self-2 : goal.invariant_of-self-2
invariant_of-self-2 g c = let self = c.args.self.now in let list = c.args.list.now in let did = c.compare_exchange-found.ensures in let put = c.exchange.ensures in record { own = taken_joined g.S.Served self.client c.args.client c.state_word.result c.compare_exchange-found.result self.seat c.compare_exchange-found.new.seat self.own c.requires.combines c.state_word.ensures (let slots = c.args.list.now.sized.1 in let at = ap (λ z. z.slots) c.requires.list in let small = c.requires.client in omega arith) did.2 c.if-found-ne-POSTED.false c.exchange.new.seat _ put.2 (empty_put _ _ _ _ _ c.empty.ensures put.3) (put.0 ∙ did.0) }

pub returns-then-found-ne-POSTED-clause-took : goal.returns-then-found-ne-POSTED-clause-took
returns-then-found-ne-POSTED-clause-took g c = let self = c.args.self.now in let did = c.compare_exchange-found.ensures in misses g.S.Served self.client c.args.client c.state_word.result c.compare_exchange-found.result self.seat c.compare_exchange-found.new.seat self.own c.requires.combines c.state_word.ensures (let slots = c.args.list.now.sized.1 in let at = ap (λ z. z.slots) c.requires.list in let small = c.requires.client in omega arith) did.2 c.if-found-ne-POSTED.true
