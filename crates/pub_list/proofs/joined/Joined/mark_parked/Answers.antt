use Rattle.std.proofs.Common.{sym, refl, ap, subst, arith}
use Rattle.pub_rule.proofs.Numbers.{state_within}
use Rattle.pub_rule.specs.Work.{IsTaken}
use Rattle.pub_list.proofs.Working.{is_client}
use Rattle.pub_list.proofs.Replying.{below_all, same_hands, hands_put, parks, parked_joined, word_parks}
use Rattle.pub_list.proofs.joined.Joined.mark_parked.Goals as goal

pub compare_exchange_with-requires : goal.compare_exchange_with-requires
compare_exchange_with-requires g c = let self = c.args.self.now in let list = c.args.list.now in let sized = list.sized.0 in let word = c.state_word.ensures in let within = state_within c.args.client list.clients (below_all self.client c.args.client self.seat self.own c.requires.combines (subst (IsTaken c.args.client) (sym c.requires.park.0.2) refl) _ list.clients (ap (λ z. z.slots) c.requires.list) list.sized.1) in (
  c.requires.list,
  omega arith,
  word_parks g.S.Served _ _ _ _ _ self.client c.args.client list.clients word list.sized.2 (is_client self.client _ _ _ self.own.working) c.requires.combines c.args.state c.requires.park
      (hands_put self.client c.args.client self.seat self.own c.requires.combines (subst (IsTaken c.args.client) (sym c.requires.park.0.2) refl) self.seat _ (same_hands self.client c.args.client self.seat self.own c.requires.combines (subst (IsTaken c.args.client) (sym c.requires.park.0.2) refl))),
)

pub invariant_of-self : goal.invariant_of-self
invariant_of-self g c = let self = c.args.self.now in let list = c.args.list.now in let did = c.compare_exchange_with.ensures in record {
  own = parked_joined self.client c.args.client self.seat self.own c.requires.combines (subst (IsTaken c.args.client) (sym c.requires.park.0.2) refl) self.seat _ (same_hands self.client c.args.client self.seat self.own c.requires.combines (subst (IsTaken c.args.client) (sym c.requires.park.0.2) refl)) c.state_word.result c.state_word.ensures c.compare_exchange_with.new.seat g.S.Served c.args.state did.2 did.0;
}

pub returns-clause-parked : goal.returns-clause-parked
returns-clause-parked g c = let self = c.args.self.now in let list = c.args.list.now in let did = c.compare_exchange_with.ensures in
    parks self.client c.args.client self.seat self.own c.requires.combines (subst (IsTaken c.args.client) (sym c.requires.park.0.2) refl) self.seat _ (same_hands self.client c.args.client self.seat self.own c.requires.combines (subst (IsTaken c.args.client) (sym c.requires.park.0.2) refl)) c.state_word.result c.state_word.ensures c.compare_exchange_with.new.seat g.S.Served c.args.state did.2
