use Rattle.std.proofs.Common.{ap, cond, eqb, subst, sym, ◌∙◌, ℕ, ◌+◌, List, [], ◌∷◌, ◌++◌, ◌≡◌}
use Rattle.ipc_call.specs.declared.calls.Kind.TheVariants as kinds
use Rattle.ipc_parked.specs.declared.arrivals.Stay.{Stay}
use Rattle.ipc_parked.specs.declared.deadlines.Due.{Due}
use Rattle.ipc_parked.specs.declared.parked.Arrival.{Arrival}
use Rattle.ipc_parked.specs.Arrivals.{IsLine, entries, stay_from}
use Rattle.ipc_parked.specs.Deadlines.{AreDues, dues_at, dues_of, rows_at}
use Rattle.ipc_parked.specs.Parked.{is_there, IsIndex}
use Rattle.ipc_parked.proofs.Dues.{dues_push, fresh}
use Rattle.ipc_parked.proofs.Line.{entries-push, free_from, line-push}
use Rattle.ipc_parked.proofs.Objects.{index-push}
use Rattle.ipc_parked.proofs.parked.Parked.park.Goals as goal
use Rattle.ipc_parked.proofs.parked.Parked.park.Goals.{After-add_row}

pub push-requires : goal.push-requires
push-requires c = record {
  free = free_from c.args.client c.self.inside.arrivals.stays (ap (λ (es : List (ℕ × Arrival)). is_there c.args.client es) c.self.view_is ∙ c.requires.free);
}

pub add_deadline-requires-clause-new : goal.add_deadline-requires-clause-new
add_deadline-requires-clause-new c =
    let stays = c.self.inside.arrivals.stays in
    let number = c.in_ok-number.number in
    ap (λ (rows : List Due). rows_at number rows) c.reserve_one.ensures.rows ∙ c.self.invariant.1 number
    ∙ ap (λ (n : ℕ). dues_at n stays) c.in_ok-number.ensures.number ∙ fresh c.self.inside.arrivals.next stays c.self.invariant.0

pub invariant_of-self-2 : goal.invariant_of-self-2
invariant_of-self-2 c =
    let stays = c.self.inside.arrivals.stays in
    let next = c.self.inside.arrivals.next in
    let client = c.args.client in
    let deadline = c.args.arrival.deadline in
    let came : ℕ × Stay = (client, stay_from next c.args.arrival) in
    let arrived : ℕ × Arrival = (client, c.args.arrival) in
    let free = free_from client stays (ap (λ (es : List (ℕ × Arrival)). is_there client es) c.self.view_is ∙ c.requires.free) in
    let line = line-push next client c.args.arrival stays c.self.invariant.0 free in
    let rows = c.self.inside.deadlines.rows in
    let after = c.add_deadline.new.deadlines.rows in
    let number = c.in_ok-number.number in
    let added_to : (n : ℕ) → rows_at n after ≡ cond (eqb number n) (dues_of client number deadline) (rows_at n rows) =
    subst (λ (rs : List Due). (n : ℕ) → rows_at n after ≡ cond (eqb number n) (dues_of client number deadline) (rows_at n rs)) c.reserve_one.ensures.rows c.add_deadline.ensures in
    let added : (n : ℕ) → rows_at n after ≡ cond (eqb next n) (dues_of client next deadline) (rows_at n rows) =
    subst (λ (m : ℕ). (n : ℕ) → rows_at n after ≡ cond (eqb m n) (dues_of client m deadline) (rows_at n rows)) c.in_ok-number.ensures.number added_to in
    let all : entries c.push.new.self.stays ≡ entries stays ++ arrived ∷ [] = ap (λ (es : List (ℕ × Stay)). entries es) c.in_ok-number.ensures.came ∙ entries-push stays came in (
      subst (λ (n : ℕ). IsLine n c.push.new.self.stays) (sym c.in_ok-number.ensures.next) (subst (λ (es : List (ℕ × Stay)). IsLine (next + 1) es) (sym c.in_ok-number.ensures.came) line),
      subst (λ (es : List (ℕ × Stay)). AreDues after es) (sym c.in_ok-number.ensures.came) (dues_push rows after next client c.args.arrival stays c.self.invariant.0 c.self.invariant.1 added),
      subst (λ (es : List (ℕ × Arrival)). IsIndex kinds.Queue c.add_row.new.queues.rows es) (sym all)
          (index-push kinds.Queue c.self.inside.queues.rows c.reserve_row.new.queues.rows c.add_row.new.queues.rows c.waits_at-at.result (entries stays) arrived c.self.invariant.2 c.reserve_row.ensures.queues c.waits_at-at.ensures c.add_row.ensures.queues),
      subst (λ (es : List (ℕ × Arrival)). IsIndex kinds.Sems c.add_row.new.sets.rows es) (sym all)
          (index-push kinds.Sems c.self.inside.sets.rows c.reserve_row.new.sets.rows c.add_row.new.sets.rows c.waits_at-at.result (entries stays) arrived c.self.invariant.3 c.reserve_row.ensures.sets c.waits_at-at.ensures c.add_row.ensures.sets),
    )
