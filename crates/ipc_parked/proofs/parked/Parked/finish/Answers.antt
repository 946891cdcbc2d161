use Rattle.std.proofs.Common.{ap, refl, subst, sym, ◌∙◌, ◌≡◌, ℕ, List, Option, Some}
use Rattle.std.specs.Option.{option_map}
use Rattle.ipc_call.specs.declared.calls.Call.{Call}
use Rattle.ipc_call.specs.declared.calls.Kind.TheVariants as kinds
use Rattle.ipc_parked.specs.declared.arrivals.Stay.{Stay}
use Rattle.ipc_parked.specs.declared.parked.Arrival.{Arrival}
use Rattle.ipc_parked.specs.Arrivals.{IsLine, entries}
use Rattle.ipc_parked.specs.Deadlines.{AreDues}
use Rattle.ipc_parked.specs.Parked.{arrival_of, is_there, others, IsIndex}
use Rattle.ipc_parked.proofs.Dues.{dues_others, own_dues}
use Rattle.ipc_parked.proofs.Line.{arrival_shown, distinct_of, entries-others, line-others, there}
use Rattle.ipc_parked.proofs.Objects.{index-others}
use Rattle.ipc_parked.proofs.parked.Parked.finish.Goals as goal

pub remove-stay-requires : goal.remove-stay-requires
remove-stay-requires c = there c.args.client c.self.inside.arrivals.stays ∙ ap (λ (es : List (ℕ × Arrival)). is_there c.args.client es) c.self.view_is ∙ c.requires

pub remove_deadline-requires : goal.remove_deadline-requires
remove_deadline-requires c =
    let stays = c.self.inside.arrivals.stays in
    c.self.invariant.1 c.remove-stay.result.number
    ∙ own_dues c.self.inside.arrivals.next c.args.client c.remove-stay.result stays c.self.invariant.0 c.remove-stay.ensures.taken

pub invariant_of-self : goal.invariant_of-self
invariant_of-self c =
    let stays = c.self.inside.arrivals.stays in
    let next = c.self.inside.arrivals.next in
    let client = c.args.client in
    let stay = c.remove-stay.result in
    let distinct = distinct_of next stays c.self.invariant.0 in
    let found : option_map {T = Arrival} {U = Call} (λ a. a.call) (arrival_of client (entries stays)) ≡ Some stay.arrival.call =
    ap (λ (o : Option Arrival). option_map {T = Arrival} {U = Call} (λ a. a.call) o) (arrival_shown client stays (entries stays) stay refl (sym c.remove-stay.ensures.taken)) in
    let left : entries c.remove-stay.new.self.stays ≡ others client (entries stays) = ap (λ (es : List (ℕ × Stay)). entries es) c.remove-stay.ensures.rest ∙ entries-others client stays in (
      subst (λ (n : ℕ). IsLine n c.remove-stay.new.self.stays) (sym c.remove-stay.ensures.next)
          (subst (λ (es : List (ℕ × Stay)). IsLine next es) (sym c.remove-stay.ensures.rest) (line-others next client stays c.self.invariant.0)),
      subst (λ (es : List (ℕ × Stay)). AreDues c.remove_deadline.new.deadlines.rows es) (sym c.remove-stay.ensures.rest)
          (dues_others c.self.inside.deadlines.rows c.remove_deadline.new.deadlines.rows next client stay stays c.self.invariant.0 c.remove-stay.ensures.taken c.self.invariant.1 c.remove_deadline.ensures),
      subst (λ (es : List (ℕ × Arrival)). IsIndex kinds.Queue c.remove_row.new.queues.rows es) (sym left)
          (index-others kinds.Queue c.self.inside.queues.rows c.remove_row.new.queues.rows c.waits_at-at.result client stay.arrival.call (entries stays) distinct found c.self.invariant.2 c.waits_at-at.ensures c.remove_row.ensures.queues),
      subst (λ (es : List (ℕ × Arrival)). IsIndex kinds.Sems c.remove_row.new.sets.rows es) (sym left)
          (index-others kinds.Sems c.self.inside.sets.rows c.remove_row.new.sets.rows c.waits_at-at.result client stay.arrival.call (entries stays) distinct found c.self.invariant.3 c.waits_at-at.ensures c.remove_row.ensures.sets),
    )

pub returns-clause-call : goal.returns-clause-call
returns-clause-call c =
    ap (λ (o : Option Arrival). option_map {T = Arrival} {U = Call} (λ a. a.call) o)
    (arrival_shown c.args.client c.self.inside.arrivals.stays c.args.self.now c.remove-stay.result c.self.view_is (sym c.remove-stay.ensures.taken))

pub returns-clause-rest : goal.returns-clause-rest
returns-clause-rest c =
    ap (λ (es : List (ℕ × Stay)). entries es) c.remove-stay.ensures.rest ∙ entries-others c.args.client c.self.inside.arrivals.stays
    ∙ ap (λ (es : List (ℕ × Arrival)). others c.args.client es) c.self.view_is
