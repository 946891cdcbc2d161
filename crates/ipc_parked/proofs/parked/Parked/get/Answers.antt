use Rattle.std.proofs.Common.{ap, sym, List, Option, None, ◌∙◌, ◌≡◌, ℕ}
use Rattle.std.specs.Option.{option_map}
use Rattle.ipc_parked.specs.declared.arrivals.Stay.{Stay}
use Rattle.ipc_parked.specs.declared.parked.Arrival.{Arrival}
use Rattle.ipc_parked.specs.Parked.{arrival_of}
use Rattle.ipc_parked.proofs.Line.{arrival_is, arrival_shown}
use Rattle.ipc_parked.proofs.parked.Parked.get.Goals as goal

pub returns-in_err-stay : goal.returns-in_err-stay
returns-in_err-stay c =
    let none : None ≡ arrival_of c.args.client c.args.self.now =
    ap (λ (o : Option Stay). option_map {T = Stay} {U = Arrival} (λ s. s.arrival) o) c.in_err-stay.ensures
    ∙ arrival_is c.args.client c.self.inside.arrivals.stays ∙ ap (λ (es : List (ℕ × Arrival)). arrival_of c.args.client es) c.self.view_is in
    rw c.from_residual.ensures none

pub returns : goal.returns
returns c = sym (arrival_shown c.args.client c.self.inside.arrivals.stays c.args.self.now c.in_ok-stay.stay.now c.self.view_is c.in_ok-stay.ensures)
