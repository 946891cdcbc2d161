use Rattle.std.proofs.Common.{◌+◌, ◌∙◌, ap, arith}
use Rattle.pub_rule.proofs.Numbers.{lock_within}
use Rattle.pub_list.proofs.Working.{empty_put, is_client}
use Rattle.pub_list.proofs.Seizing.{lock_seizes, met_joined, holds_one, seized_joined}
use Rattle.pub_list.proofs.joined.Joined.try_seize.Goals as goal

pub compare_exchange-found-requires : goal.compare_exchange-found-requires
compare_exchange-found-requires g c = let self = c.args.self.now in let list = c.args.list.now in let sized = list.sized.0 in let word = c.lock_word.ensures in let within = lock_within list.clients in
    (c.requires.list, omega arith, lock_seizes g.S.Served _ _ _ _ _ self.client _ word (ap (λ z. z + 1) c.from-number.ensures) (is_client self.client _ _ _ self.own.working) c.requires.unheld)

pub invariant_of-self : goal.invariant_of-self
invariant_of-self g c = let self = c.args.self.now in let did = c.compare_exchange-found.ensures in record { own = met_joined self.client _ c.compare_exchange-found.result self.seat c.compare_exchange-found.new.seat self.own (did.2.miss c.if-found-ne0.true) did.0 }

pub exchange-requires : goal.exchange-requires
exchange-requires g c = let self = c.args.self.now in let list = c.args.list.now in let did = c.compare_exchange-found.ensures in (did.0 ∙ c.requires.list, holds_one g.S.Served self.client list.clients _ c.compare_exchange-found.result self.seat c.compare_exchange-found.new.seat self.own c.requires.unheld (ap (λ z. z.slots) c.requires.list) list.sized.1 did.2 c.if-found-ne0.false)

pub invariant_of-self-2 : goal.invariant_of-self-2
invariant_of-self-2 g c = let self = c.args.self.now in let list = c.args.list.now in let did = c.compare_exchange-found.ensures in let put = c.exchange.ensures in record { own = seized_joined g.S.Served self.client list.clients _ c.compare_exchange-found.result self.seat c.compare_exchange-found.new.seat self.own c.requires.unheld (ap (λ z. z.slots) c.requires.list) list.sized.1 did.2 c.if-found-ne0.false c.exchange.new.seat _ put.2 (empty_put _ _ _ _ _ c.empty.ensures put.3) (put.0 ∙ did.0) }
