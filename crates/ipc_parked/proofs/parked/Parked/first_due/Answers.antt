use Rattle.std.proofs.Common.{◌∙◌, ◌≡◌, ℕ, List, ap, Option, None, Some}
use Rattle.std.specs.List.{find}
use Rattle.std.specs.Option.{option_map}
use Rattle.ipc_model.specs.Decide.{is_reached}
use Rattle.ipc_parked.specs.declared.parked.Arrival.{Arrival}
use Rattle.ipc_parked.proofs.Dues.{first_due_is}
use Rattle.ipc_parked.proofs.parked.Parked.first_due.Goals as goal

-- the client of the earliest call whose deadline is reached
abbrev found : ℕ → List (ℕ × Arrival) → Option ℕ
found clock es = option_map {T = ℕ × Arrival} {U = ℕ} (λ e. e.0) (find (λ (e : ℕ × Arrival). is_reached clock e.1.deadline) es)

pub returns-in_err-row : goal.returns-in_err-row
returns-in_err-row c =
    let waits = c.self.inside in
    let none : None ≡ found c.args.clock c.args.self.now =
    first_due_is c.args.clock waits.arrivals.next waits.deadlines.rows waits.arrivals.stays None c.self.invariant.0 c.self.invariant.1 c.in_err-row.ensures
    ∙ ap (λ (es : List (ℕ × Arrival)). found c.args.clock es) c.self.view_is in
    rw c.from_residual.ensures none

pub returns : goal.returns
returns c =
    let waits = c.self.inside in
    first_due_is c.args.clock waits.arrivals.next waits.deadlines.rows waits.arrivals.stays (Some c.in_ok-row.row) c.self.invariant.0 c.self.invariant.1 c.in_ok-row.ensures
    ∙ ap (λ (es : List (ℕ × Arrival)). found c.args.clock es) c.self.view_is
