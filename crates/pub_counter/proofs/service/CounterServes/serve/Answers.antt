use Rattle.std.proofs.Common.{◌<◌, ◌^◌, sym, subst}
use Rattle.pub_counter.specs.declared.counter.Counter.{Counter}
use Rattle.pub_counter.specs.Counter.{total, replies, IsAdded}
use Rattle.pub_list.specs.Passing.{IsServing}
use Rattle.pub_counter.proofs.Serving.{may_answer, serves_on}
use Rattle.pub_counter.proofs.service.CounterServes.serve.Goals as goal

pub answer-requires-clause-answer : goal.answer-requires-clause-answer
answer-requires-clause-answer c = may_answer c.args.list.now.clients c.args.client c.args.call c.args.combiner.now.seat.me.0 c.args.state c.requires.taken c.add.new.self c.in-Some.sum (subst (λ k. IsAdded k c.args.call c.args.state.turns.items c.add.new.self.turns.items c.in-Some.sum) c.from.ensures c.in-Some.ensures.some)

pub returns-in-Some-clause-serving : goal.returns-in-Some-clause-serving
returns-in-Some-clause-serving c = subst (IsServing (λ (s : Counter). s.turns.items) (λ h. total h < 2 ^ 64) replies c.args.list.now.clients c.answer.new.self.seat.me.0) (sym c.answer.ensures.state) (serves_on c.args.list.now.clients c.args.client c.args.call c.args.combiner.now.seat.me.0 c.args.state c.requires.taken c.add.new.self c.in-Some.sum (subst (λ k. IsAdded k c.args.call c.args.state.turns.items c.add.new.self.turns.items c.in-Some.sum) c.from.ensures c.in-Some.ensures.some) c.answer.new.self.seat.me.0 c.answer.ensures.answered)
