use Rattle.std.proofs.Common.{◌≡◌, ◌∙◌, ℕ, ap, arith, refl, set, sym, subst, List, Option, Some, None}
use Rattle.std.specs.Borrow.{Bor}
use Rattle.std.specs.Prelude.{option_copied}
use Rattle.ipc_parked.specs.declared.arrivals.Stay.{Stay}
use Rattle.ipc_parked.specs.Arrivals.{ArrivalsState, Holds, IsLine, IsTurn, other_stays, stay_of, stays_in}
use Rattle.ipc_parked.proofs.Line.{held, holds_removed, length_held, line-others, settled, turn_within}
use Rattle.ipc_parked.proofs.arrivals.Arrivals.remove.Goals as goal
use Rattle.ipc_parked.proofs.arrivals.Arrivals.remove.Goals.{After-place_of-at, After-take_out}

pub place_of-at-requires : goal.place_of-at-requires
place_of-at-requires c = subst (λ (a : ArrivalsState). IsLine a.next a.stays) c.self.view_is c.self.invariant.0

found : (c : After-place_of-at) → stay_of c.args.client (stays_in c.self.inside.slots.items c.self.inside.order.items) ≡ Some c.unwrap.result.now
found c =
    ap (λ (a : ArrivalsState). stay_of c.args.client a.stays) c.self.view_is
    ∙ sym c.get.ensures ∙ ap (λ (r : Option (Bor Stay)). option_copied r) c.unwrap.ensures

turn : (c : After-place_of-at) → IsTurn (stays_in c.self.inside.slots.items c.self.inside.order.items) c.unwrap.result.now.number c.place_of-at.result
turn c = subst (λ (a : ArrivalsState). IsTurn a.stays c.unwrap.result.now.number c.place_of-at.result) (sym c.self.view_is) c.place_of-at.ensures

pub remove-requires : goal.remove-requires
remove-requires c =
    let b = (goal.at.remove-requires c).After-place_of-at in
    let es = stays_in c.self.inside.slots.items c.self.inside.order.items in
    let low = turn_within c.self.inside.next c.args.client c.place_of-at.result c.unwrap.result.now es (found b) (turn b).within (turn b).below in
    let size = length_held c.self.inside.slots.items es c.self.inside.order.items c.self.invariant.1 in
    let count = c.self.inside.order.ok.0 in
    omega (arith, low, size, count)

holds : (c : After-take_out) → Holds c.take_out.new.slots.items c.remove.new.self.items (other_stays c.args.client (stays_in c.self.inside.slots.items c.self.inside.order.items))
holds c =
    let es = stays_in c.self.inside.slots.items c.self.inside.order.items in
    let found_before : stay_of c.args.client es ≡ Some c.unwrap.result.now =
    ap (λ (a : ArrivalsState). stay_of c.args.client a.stays) c.self.view_is
    ∙ sym c.get.ensures ∙ ap (λ (r : Option (Bor Stay)). option_copied r) c.unwrap.ensures in
    let stood : IsTurn es c.unwrap.result.now.number c.place_of-at.result =
    subst (λ (a : ArrivalsState). IsTurn a.stays c.unwrap.result.now.number c.place_of-at.result) (sym c.self.view_is) c.place_of-at.ensures in
    subst (λ (slots : List (Option Stay)). Holds slots c.remove.new.self.items (other_stays c.args.client es)) (sym c.take_out.ensures.left)
    (subst (λ (order : List ℕ). Holds (set c.self.inside.slots.items c.args.client None) order (other_stays c.args.client es)) (sym c.remove.ensures.items)
    (holds_removed c.self.inside.slots.items c.self.inside.order.items c.self.inside.next es c.args.client c.unwrap.result.now.number c.place_of-at.result c.unwrap.result.now c.self.invariant.1 c.self.invariant.0 found_before refl stood))

pub invariant_of-self : goal.invariant_of-self
invariant_of-self c =
    let es = stays_in c.self.inside.slots.items c.self.inside.order.items in
    settled c.take_out.new.slots.items c.remove.new.self.items c.self.inside.next (other_stays c.args.client es) (holds (goal.at.invariant_of-self c).After-take_out) (line-others c.self.inside.next c.args.client es c.self.invariant.0)

pub returns-clause-rest : goal.returns-clause-rest
returns-clause-rest c =
    let es = stays_in c.self.inside.slots.items c.self.inside.order.items in
    held c.take_out.new.slots.items c.remove.new.self.items c.self.inside.next (other_stays c.args.client es) (holds (goal.at.returns-clause-rest c).After-take_out) (line-others c.self.inside.next c.args.client es c.self.invariant.0)
    ∙ ap (λ (a : ArrivalsState). other_stays c.args.client a.stays) c.self.view_is
