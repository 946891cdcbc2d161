use Rattle.std.proofs.Common.{◌≡◌, ◌∷◌, ◌++◌, [], ap, sym, refl, subst}
use Rattle.pub_counter.specs.Swap.{legal, replies}
use Rattle.pub_counter.specs.Swapping.{turns_of}
use Rattle.pub_list.specs.Passing.{IsServing}
use Rattle.pub_counter.proofs.Meeting.{may_reply, owed, took_parked, may_hand, serves_on}
use Rattle.pub_counter.proofs.swapping.meet.Goals as goal

pub answer-entered-requires-clause-answer : goal.answer-entered-requires-clause-answer
answer-entered-requires-clause-answer c = may_reply c.args.list.now.clients c.args.client c.args.amount c.args.joined.now.seat.me.0 c.args.state c.requires.taken c.enter.new.self (subst (λ k. c.enter.new.self.turns.items ≡ c.args.state.turns.items ++ record { client = k; amount = c.args.amount } ∷ []) c.from.ensures (c.if-not-enter.ensures.entered refl)) c.args.partner c.args.other c.requires.partner

pub take-requires-clause-from : goal.take-requires-clause-from
take-requires-clause-from c = owed c.args.list.now.clients c.args.client c.args.amount c.args.joined.now.seat.me.0 c.args.state c.requires.taken c.enter.new.self (subst (λ k. c.enter.new.self.turns.items ≡ c.args.state.turns.items ++ record { client = k; amount = c.args.amount } ∷ []) c.from.ensures (c.if-not-enter.ensures.entered refl)) c.args.partner c.args.other c.requires.partner c.answer-entered.new.self.seat.me.0 c.answer-entered.ensures.answered

pub answer-requires-2-clause-answer : goal.answer-requires-2-clause-answer
answer-requires-2-clause-answer c = let t = took_parked c.args.partner c.answer-entered.new.self.seat.me.0 c.take.new.self.seat.me.0 c.take.result c.take.ensures.took in may_hand c.args.list.now.clients c.args.client c.args.amount c.args.joined.now.seat.me.0 c.args.state c.requires.taken c.enter.new.self (subst (λ k. c.enter.new.self.turns.items ≡ c.args.state.turns.items ++ record { client = k; amount = c.args.amount } ∷ []) c.from.ensures (c.if-not-enter.ensures.entered refl)) c.args.partner c.args.other c.requires.partner c.answer-entered.new.self.seat.me.0 c.answer-entered.ensures.answered c.take.new.self.seat.me.0 t.0 t.1 c.answer-entered.result (ap (λ s. s.turns.items) c.answer-entered.ensures.state)

pub returns-clause-serving : goal.returns-clause-serving
returns-clause-serving c = let t = took_parked c.args.partner c.answer-entered.new.self.seat.me.0 c.take.new.self.seat.me.0 c.take.result c.take.ensures.took in subst (IsServing turns_of legal replies c.args.list.now.clients c.answer-2.new.self.seat.me.0) (sym c.answer-2.ensures.state) (serves_on c.args.list.now.clients c.args.client c.args.amount c.args.joined.now.seat.me.0 c.args.state c.requires.taken c.enter.new.self (subst (λ k. c.enter.new.self.turns.items ≡ c.args.state.turns.items ++ record { client = k; amount = c.args.amount } ∷ []) c.from.ensures (c.if-not-enter.ensures.entered refl)) c.args.partner c.args.other c.requires.partner c.answer-entered.new.self.seat.me.0 c.answer-entered.ensures.answered c.take.new.self.seat.me.0 t.0 t.1 c.answer-entered.result (ap (λ s. s.turns.items) c.answer-entered.ensures.state) c.answer-2.new.self.seat.me.0 c.answer-2.ensures.answered)
