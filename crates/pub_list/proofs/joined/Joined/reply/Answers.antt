use Rattle.std.proofs.Common.{◌∙◌, sym, ap, subst, arith}
use Rattle.pub_rule.proofs.Numbers.{state_within}
use Rattle.pub_rule.specs.Work.{IsClient}
use Rattle.pub_list.proofs.Working.{is_client}
use Rattle.pub_list.proofs.Replying.{was_empty, holds_one, below_all, hands_put, taken_of, replies_now, replied_joined, word_replies}
use Rattle.pub_list.specs.Combining.{MayAnswer}
use Rattle.pub_list.specs.declared.asking.Answer.TheVariants as answers
use Rattle.pub_list.proofs.joined.Joined.reply.Goals as goal

pub exchange-requires : goal.exchange-requires
exchange-requires g c = let self = c.args.self.now in let list = c.args.list.now in (c.requires.list, holds_one self.client c.args.client self.seat self.own c.requires.combines (taken_of g.S.Served.history g.S.Served.legal g.S.Served.client g.S.Served.call list.clients c.args.client self.seat.me.0 c.args.state g.S.Served.replies c.args.reply c.requires.answer))

pub drop_empty-requires : goal.drop_empty-requires
drop_empty-requires g c = let self = c.args.self.now in let list = c.args.list.now in was_empty self.client c.args.client self.seat self.own c.requires.combines (taken_of g.S.Served.history g.S.Served.legal g.S.Served.client g.S.Served.call list.clients c.args.client self.seat.me.0 c.args.state g.S.Served.replies c.args.reply c.requires.answer) c.exchange.result c.exchange.ensures.2

pub compare_exchange_with-requires : goal.compare_exchange_with-requires
compare_exchange_with-requires g c = let self = c.args.self.now in let list = c.args.list.now in let put = c.exchange.ensures in let sized = list.sized.0 in let word = c.state_word.ensures in let within = state_within c.args.client list.clients (below_all self.client c.args.client self.seat self.own c.requires.combines (taken_of g.S.Served.history g.S.Served.legal g.S.Served.client g.S.Served.call list.clients c.args.client self.seat.me.0 c.args.state g.S.Served.replies c.args.reply c.requires.answer) _ list.clients (ap (λ z. z.slots) c.requires.list) list.sized.1) in let still = sym (ap (λ m. m.0) put.3) in (
  put.0 ∙ c.requires.list,
  omega arith,
  word_replies g.S.Served _ _ _ _ _ self.client c.args.client list.clients word list.sized.2 (subst (λ v. IsClient self.client v.work.stage) still (is_client self.client _ _ _ self.own.working)) (ap (λ v. v.work.holds) (ap (λ m. m.0) put.3) ∙ c.requires.combines) c.args.state c.args.reply
      (subst (λ v. MayAnswer g.S.Served.history g.S.Served.legal g.S.Served.client g.S.Served.call list.clients c.args.client v c.args.state g.S.Served.replies (answers.Reply c.args.reply)) still c.requires.answer)
      (hands_put self.client c.args.client self.seat self.own c.requires.combines (taken_of g.S.Served.history g.S.Served.legal g.S.Served.client g.S.Served.call list.clients c.args.client self.seat.me.0 c.args.state g.S.Served.replies c.args.reply c.requires.answer) c.exchange.new.seat _ put.3),
)

pub invariant_of-self : goal.invariant_of-self
invariant_of-self g c = let self = c.args.self.now in let list = c.args.list.now in let put = c.exchange.ensures in let did = c.compare_exchange_with.ensures in record {
  own = replied_joined self.client c.args.client self.seat self.own c.requires.combines (taken_of g.S.Served.history g.S.Served.legal g.S.Served.client g.S.Served.call list.clients c.args.client self.seat.me.0 c.args.state g.S.Served.replies c.args.reply c.requires.answer) c.exchange.new.seat _ put.3 c.state_word.result c.state_word.ensures c.compare_exchange_with.new.seat g.S.Served c.args.state list.table.shared.table_id.slots c.compare_exchange_with.result did.2 (did.0 ∙ put.0);
}

pub returns-clause-answered : goal.returns-clause-answered
returns-clause-answered g c = let self = c.args.self.now in let list = c.args.list.now in let put = c.exchange.ensures in let did = c.compare_exchange_with.ensures in
    replies_now self.client c.args.client self.seat self.own c.requires.combines (taken_of g.S.Served.history g.S.Served.legal g.S.Served.client g.S.Served.call list.clients c.args.client self.seat.me.0 c.args.state g.S.Served.replies c.args.reply c.requires.answer) c.exchange.new.seat _ put.3 c.state_word.result c.state_word.ensures c.compare_exchange_with.new.seat g.S.Served c.args.state list.table.shared.table_id.slots c.compare_exchange_with.result did.2
