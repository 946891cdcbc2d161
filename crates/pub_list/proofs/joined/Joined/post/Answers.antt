use Rattle.std.proofs.Common.{◌∙◌, ap, arith}
use Rattle.pub_rule.proofs.Numbers.{state_within}
use Rattle.pub_list.proofs.Posting.{was_empty, hands_put, still_idle, call_posts, posts, posted_joined}
use Rattle.pub_list.proofs.joined.Joined.post.Goals as goal

pub drop_empty-requires : goal.drop_empty-requires
drop_empty-requires g c = let self = c.args.self.now in let put = c.exchange.ensures in was_empty self.client c.args.call self.seat c.exchange.new.seat self.own c.requires.idle c.requires.unheld put.3 c.exchange.result put.2

pub store-requires : goal.store-requires
store-requires g c = let self = c.args.self.now in let list = c.args.list.now in let put = c.exchange.ensures in let sized = list.sized.0 in let slots = list.sized.1 in let word = c.state_word.ensures in let at = ap (λ z. z.slots) c.requires.list in
    let small = self.own.small in let within = state_within self.client list.clients (omega arith) in (
      put.0 ∙ c.requires.list,
      omega arith,
      call_posts g.S.Served _ _ _ _ _ self.client c.args.call word
          (still_idle self.client c.args.call self.seat c.exchange.new.seat self.own c.requires.idle c.requires.unheld put.3)
          (hands_put self.client c.args.call self.seat c.exchange.new.seat self.own c.requires.idle c.requires.unheld put.3),
    )

pub invariant_of-self : goal.invariant_of-self
invariant_of-self g c = let self = c.args.self.now in let put = c.exchange.ensures in let did = c.store.ensures in record {
  own = posted_joined self.client c.args.call self.seat c.exchange.new.seat self.own c.requires.idle c.requires.unheld put.3 c.store.new.seat did.2 (did.0 ∙ put.0);
}

pub returns-clause-posted : goal.returns-clause-posted
returns-clause-posted g c = let self = c.args.self.now in let put = c.exchange.ensures in let did = c.store.ensures in
    ap (λ m. m.0) (posts self.client c.args.call self.seat c.exchange.new.seat self.own c.requires.idle c.requires.unheld put.3 c.store.new.seat did.2)
