use Rattle.std.proofs.Common.{◌≡◌, ◌<◌, ◌+◌, ◌∙◌, ◌++◌, ◌∷◌, [], ℕ, ap, length, set, sym, subst, List, Option, Some, None}
use Rattle.ipc_parked.specs.declared.arrivals.Stay.{Stay}
use Rattle.ipc_parked.specs.Arrivals.{ArrivalsState, Holds, IsLine, stay_from, stay_of, stays_in}
use Rattle.ipc_parked.proofs.Line.{held, holds_push, holds_same, line-push, settled}
use Rattle.ipc_parked.proofs.arrivals.Arrivals.push.Goals as goal
use Rattle.ipc_parked.proofs.arrivals.Arrivals.push.Goals.{After-unwrap}

-- the calls before, and the one that comes
old : After-unwrap → List (ℕ × Stay)
old c = stays_in c.self.inside.slots.items c.self.inside.order.items

came : After-unwrap → ℕ × Stay
came c = (c.args.client, stay_from c.self.inside.next c.args.arrival)

free : (c : After-unwrap) → stay_of c.args.client (old c) ≡ None
unfolding old
free c = ap (λ (a : ArrivalsState). stay_of c.args.client a.stays) c.self.view_is ∙ c.requires.free

line : (c : After-unwrap) → IsLine (c.self.inside.next + 1) (old c ++ came c ∷ [])
unfolding old came
line c = line-push c.self.inside.next c.args.client c.args.arrival (old c) c.self.invariant.0 (free c)

order : (c : After-unwrap) → c.push.new.self.items ≡ c.self.inside.order.items ++ c.args.client ∷ []
order c =
    let e = c.push.ensures.items in
    let pushed = rw c.unwrap.ensures at e in
    pushed ∙ ap (λ (cs : List ℕ). cs ++ c.args.client ∷ []) c.reserve.ensures.items

holds : (c : After-unwrap) → Holds c.put.new.slots.items c.push.new.self.items (old c ++ came c ∷ [])
unfolding old came
holds c =
    let grown = holds_same c.self.inside.slots.items c.grow.new.slots.items c.self.inside.order.items (old c) c.in_ok-grow.ensures.slots c.self.invariant.1 in
    let within : c.args.client < length c.grow.new.slots.items = subst (λ (n : ℕ). c.args.client < n) c.grow.new.slots.ok.0 c.in_ok-grow.ensures.room in
    let stay = stay_from c.self.inside.next c.args.arrival in
    subst (λ (slots : List (Option Stay)). Holds slots c.push.new.self.items (old c ++ came c ∷ [])) (sym c.put.ensures)
    (subst (λ (cs : List ℕ). Holds (set c.grow.new.slots.items c.args.client (Some stay)) cs (old c ++ came c ∷ [])) (sym (order c))
    (holds_push c.grow.new.slots.items c.self.inside.order.items (old c) c.args.client stay grown (free c) within))

pub invariant_of-self-2 : goal.invariant_of-self-2
unfolding old came
invariant_of-self-2 c =
    let b = (goal.at.invariant_of-self-2 c).After-unwrap in
    settled c.put.new.slots.items c.push.new.self.items (c.self.inside.next + 1) (old b ++ came b ∷ []) (holds b) (line b)

pub returns-clause-came : goal.returns-clause-came
unfolding old came
returns-clause-came c =
    let b = (goal.at.returns-clause-came c).After-unwrap in
    held c.put.new.slots.items c.push.new.self.items (c.self.inside.next + 1) (old b ++ came b ∷ []) (holds b) (line b)
    ∙ ap (λ (a : ArrivalsState). a.stays ++ (c.args.client, stay_from a.next c.args.arrival) ∷ []) c.self.view_is
