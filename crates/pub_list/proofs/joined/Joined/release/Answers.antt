use Rattle.std.proofs.Common.{◌∙◌, sym, ap, subst, arith}
use Rattle.pub_rule.proofs.Numbers.{lock_within}
use Rattle.pub_rule.specs.Work.{IsClient}
use Rattle.pub_list.specs.Combining.{IsCombining, OwesNothing}
use Rattle.pub_list.proofs.Working.{is_client}
use Rattle.pub_list.proofs.Seizing.{was_empty, holds_slot, hands_put, releases, released_joined, lock_releases}
use Rattle.pub_list.proofs.joined.Joined.release.Goals as goal

pub exchange-requires : goal.exchange-requires
exchange-requires g c = let self = c.args.self.now in let list = c.args.list.now in (c.requires.list, holds_slot self.client list.clients c.args.state self.seat self.seat self.own c.requires.combines (let at = ap (λ z. z.slots) c.requires.list in let sized = list.sized.1 in omega arith))

pub drop_empty-requires : goal.drop_empty-requires
drop_empty-requires g c = let self = c.args.self.now in let list = c.args.list.now in was_empty self.client list.clients c.args.state self.seat self.seat self.own c.requires.combines (let at = ap (λ z. z.slots) c.requires.list in let sized = list.sized.1 in omega arith) c.exchange.result c.exchange.ensures.2

pub store-requires : goal.store-requires
store-requires g c = let self = c.args.self.now in let list = c.args.list.now in let put = c.exchange.ensures in let sized = list.sized.0 in let word = c.lock_word.ensures in let within = lock_within list.clients in
    let still = sym (ap (λ m. m.0) put.3) in (
      put.0 ∙ c.requires.list,
      omega arith,
      lock_releases g.S.Served _ _ _ _ _ self.client list.clients c.args.state word list.sized.2 (subst (λ v. IsClient self.client v.work.stage) still (is_client self.client _ _ _ self.own.working)) (subst IsCombining still c.requires.combines)
          (c.requires.state ∙ ap (λ v. v.work.seen) still) (subst (OwesNothing g.S.Served.replies list.clients) still c.requires.owed) (hands_put self.client list.clients c.args.state self.seat c.exchange.new.seat self.own c.requires.combines (let at = ap (λ z. z.slots) c.requires.list in let sized = list.sized.1 in omega arith) put.3),
    )

pub invariant_of-self : goal.invariant_of-self
invariant_of-self g c = let self = c.args.self.now in let list = c.args.list.now in let put = c.exchange.ensures in let did = c.store.ensures in record {
  own = released_joined self.client list.clients c.args.state self.seat c.exchange.new.seat self.own c.requires.combines (let at = ap (λ z. z.slots) c.requires.list in let sized = list.sized.1 in omega arith) put.3 c.store.new.seat did.2 (did.0 ∙ put.0);
}

pub returns-clause-released : goal.returns-clause-released
returns-clause-released g c = let self = c.args.self.now in let list = c.args.list.now in let put = c.exchange.ensures in let did = c.store.ensures in
    ap (λ m. m.0) (releases self.client list.clients c.args.state self.seat c.exchange.new.seat self.own c.requires.combines (let at = ap (λ z. z.slots) c.requires.list in let sized = list.sized.1 in omega arith) put.3 c.store.new.seat did.2)
