use Rattle.std.proofs.Common.{◌∙◌, sym, refl, ap, subst, arith}
use Rattle.pub_rule.proofs.Numbers.{state_within}
use Rattle.pub_rule.specs.Work.{IsClient, IsTaken}
use Rattle.pub_list.proofs.Working.{is_client}
use Rattle.pub_list.proofs.Replying.{was_empty, holds_one, below_all, hands_put, refuses, refused_joined, word_refuses}
use Rattle.pub_list.proofs.joined.Joined.refuse.Goals as goal

pub exchange-requires : goal.exchange-requires
exchange-requires g c = let self = c.args.self.now in let list = c.args.list.now in (c.requires.list, holds_one self.client c.args.client self.seat self.own c.requires.took.0 (subst (IsTaken c.args.client) (sym c.requires.took.2) refl))

pub drop_empty-requires : goal.drop_empty-requires
drop_empty-requires g c = let self = c.args.self.now in was_empty self.client c.args.client self.seat self.own c.requires.took.0 (subst (IsTaken c.args.client) (sym c.requires.took.2) refl) c.exchange.result c.exchange.ensures.2

pub store-requires : goal.store-requires
store-requires g c = let self = c.args.self.now in let list = c.args.list.now in let put = c.exchange.ensures in let sized = list.sized.0 in let word = c.state_word.ensures in let within = state_within c.args.client list.clients (below_all self.client c.args.client self.seat self.own c.requires.took.0 (subst (IsTaken c.args.client) (sym c.requires.took.2) refl) _ list.clients (ap (λ z. z.slots) c.requires.list) list.sized.1) in let still = sym (ap (λ m. m.0) put.3) in (
  put.0 ∙ c.requires.list,
  omega arith,
  word_refuses g.S.Served _ _ _ _ _ self.client c.args.client list.clients word list.sized.2 (subst (λ v. IsClient self.client v.work.stage) still (is_client self.client _ _ _ self.own.working)) (ap (λ v. v.work.holds) (ap (λ m. m.0) put.3) ∙ c.requires.took.0) c.requires.took.1 (ap (λ v. v.work.serving) (ap (λ m. m.0) put.3) ∙ c.requires.took.2)
      (hands_put self.client c.args.client self.seat self.own c.requires.took.0 (subst (IsTaken c.args.client) (sym c.requires.took.2) refl) c.exchange.new.seat _ put.3),
)

pub invariant_of-self : goal.invariant_of-self
invariant_of-self g c = let self = c.args.self.now in let list = c.args.list.now in let put = c.exchange.ensures in let did = c.store.ensures in record {
  own = refused_joined self.client c.args.client self.seat self.own c.requires.took.0 (subst (IsTaken c.args.client) (sym c.requires.took.2) refl) c.exchange.new.seat _ put.3 c.state_word.result c.state_word.ensures c.store.new.seat did.2 (did.0 ∙ put.0);
}

pub returns-clause-refused : goal.returns-clause-refused
returns-clause-refused g c = let self = c.args.self.now in let list = c.args.list.now in let put = c.exchange.ensures in let did = c.store.ensures in
    refuses self.client c.args.client self.seat self.own c.requires.took.0 (subst (IsTaken c.args.client) (sym c.requires.took.2) refl) c.exchange.new.seat _ put.3 c.state_word.result c.state_word.ensures c.store.new.seat did.2
