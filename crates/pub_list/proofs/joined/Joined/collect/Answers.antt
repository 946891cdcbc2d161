use Rattle.std.proofs.Common.{◌∙◌, ap, arith}
use Rattle.pub_rule.proofs.Numbers.{state_within}
use Rattle.pub_list.proofs.Working.{empty_put, is_client}
use Rattle.pub_list.proofs.Posting.{reply_collects, still_asks, holds_one, collected_joined}
use Rattle.pub_list.proofs.joined.Joined.collect.Goals as goal

pub compare_exchange-found-requires : goal.compare_exchange-found-requires
compare_exchange-found-requires g c = let self = c.args.self.now in let list = c.args.list.now in let sized = list.sized.0 in let slots = list.sized.1 in let word = c.state_word-word.ensures in let at = ap (λ z. z.slots) c.requires.list in
    let small = self.own.small in let within = state_within self.client list.clients (omega arith) in
    (c.requires.list, omega arith, reply_collects g.S.Served _ _ _ _ _ self.client word (is_client self.client _ _ _ self.own.working))

pub invariant_of-self : goal.invariant_of-self
invariant_of-self g c = let self = c.args.self.now in let did = c.compare_exchange-found.ensures in record {
  own = still_asks g.S.Served self.client c.compare_exchange-found.result self.seat c.compare_exchange-found.new.seat self.own c.requires.unheld did.2 c.if-found-ne-ANSWERED.true did.0;
}

pub exchange-requires : goal.exchange-requires
exchange-requires g c = let self = c.args.self.now in let did = c.compare_exchange-found.ensures in
    (did.0 ∙ c.requires.list, holds_one g.S.Served self.client c.compare_exchange-found.result self.seat c.compare_exchange-found.new.seat self.own c.requires.unheld did.2 c.if-found-ne-ANSWERED.false)

pub invariant_of-self-2 : goal.invariant_of-self-2
invariant_of-self-2 g c = let self = c.args.self.now in let did = c.compare_exchange-found.ensures in let put = c.exchange.ensures in record {
  own = collected_joined g.S.Served self.client c.compare_exchange-found.result self.seat c.compare_exchange-found.new.seat self.own c.requires.unheld did.2 c.if-found-ne-ANSWERED.false c.exchange.new.seat _ put.2 (empty_put _ _ _ _ _ c.empty.ensures put.3) (put.0 ∙ did.0);
}
