use Rattle.std.proofs.Common.{◌∙◌, ℕ, List, ap, refl, sym, slice_get}
use Rattle.ipc_parked.specs.declared.parked.Arrival.{Arrival}
use Rattle.ipc_parked.specs.Arrivals.{entries}
use Rattle.ipc_parked.specs.Parked.{clients_on, on_object, waiting}
use Rattle.ipc_parked.proofs.Clients.{there_from}
use Rattle.ipc_parked.proofs.Line.{arrival_shown, distinct_of, shown_by, shown_there}
use Rattle.ipc_parked.proofs.Objects.{found_at, nth_found}
use Rattle.ipc_parked.proofs.parked.Parked.nth_on.Goals as goal

pub unwrap-requires : goal.unwrap-requires
unwrap-requires c =
    let stays = c.self.inside.arrivals.stays in
    let es = entries stays in
    let client = c.in_ok-client.client in
    let is = c.in_ok-client.ensures ∙ ap (λ (ds : List (ℕ × Arrival)). slice_get (clients_on c.args.kind c.args.id ds) c.args.index) (sym c.self.view_is) in
    let there = found_at c.args.kind c.args.id c.args.index client es (distinct_of c.self.inside.arrivals.next stays c.self.invariant.0) (sym is) in
    shown_there client stays es c.get.result refl c.get.ensures (there_from client es there.0 there.1)

pub returns : goal.returns
returns c =
    let stays = c.self.inside.arrivals.stays in
    let es = entries stays in
    let client = c.in_ok-client.client in
    let is = c.in_ok-client.ensures ∙ ap (λ (ds : List (ℕ × Arrival)). slice_get (clients_on c.args.kind c.args.id ds) c.args.index) (sym c.self.view_is) in
    let found = arrival_shown client stays es c.unwrap.result.now refl (shown_by client stays c.get.result c.unwrap.result c.get.ensures c.unwrap.ensures) in
    nth_found c.args.kind c.args.id c.args.index client es c.unwrap.result.now.arrival (distinct_of c.self.inside.arrivals.next stays c.self.invariant.0) is found
    ∙ ap (λ (ds : List (ℕ × Arrival)). slice_get (waiting (on_object c.args.kind c.args.id ds)) c.args.index) c.self.view_is
