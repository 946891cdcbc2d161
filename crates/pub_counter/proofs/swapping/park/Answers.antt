use Rattle.std.proofs.Common.{◌≡◌, ◌∷◌, ◌++◌, [], sym, refl, subst}
use Rattle.pub_counter.specs.Swap.{legal, replies}
use Rattle.pub_counter.specs.Swapping.{turns_of}
use Rattle.pub_list.specs.Passing.{IsServing}
use Rattle.pub_counter.proofs.Meeting.{may_park, parks_on}
use Rattle.pub_counter.proofs.swapping.park.Goals as goal

pub mark_parked-requires-clause-park : goal.mark_parked-requires-clause-park
mark_parked-requires-clause-park c = may_park c.args.list.now.clients c.args.client c.args.amount c.args.joined.now.seat.me.0 c.args.state c.requires.taken c.enter.new.self (subst (λ k. c.enter.new.self.turns.items ≡ c.args.state.turns.items ++ record { client = k; amount = c.args.amount } ∷ []) c.from.ensures (c.if-enter.ensures.entered refl)) c.requires.first

pub returns-then-enter-clause-serving : goal.returns-then-enter-clause-serving
returns-then-enter-clause-serving c = subst (IsServing turns_of legal replies c.args.list.now.clients c.mark_parked.new.self.seat.me.0) (sym c.mark_parked.ensures.state) (parks_on c.args.list.now.clients c.args.client c.args.amount c.args.joined.now.seat.me.0 c.args.state c.requires.taken c.enter.new.self (subst (λ k. c.enter.new.self.turns.items ≡ c.args.state.turns.items ++ record { client = k; amount = c.args.amount } ∷ []) c.from.ensures (c.if-enter.ensures.entered refl)) c.requires.first c.mark_parked.new.self.seat.me.0 c.mark_parked.ensures.parked)
