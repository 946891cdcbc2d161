use Rattle.std.proofs.Common.{ap, Option}
use Rattle.std.specs.Option.{option_map}
use Rattle.ipc_call.specs.declared.calls.Call.{Call}
use Rattle.ipc_parked.specs.declared.parked.Arrival.{Arrival}
use Rattle.ipc_parked.proofs.Line.{arrival_shown, shown_by, shown_there}
use Rattle.ipc_parked.proofs.parked.Parked.call_of.Goals as goal

pub unwrap-requires : goal.unwrap-requires
unwrap-requires c = shown_there c.args.client c.self.inside.arrivals.stays c.args.self.now c.get.result c.self.view_is c.get.ensures c.requires

pub returns : goal.returns
returns c =
    let es = c.self.inside.arrivals.stays in
    ap (λ (o : Option Arrival). option_map {T = Arrival} {U = Call} (λ a. a.call) o)
    (arrival_shown c.args.client es c.args.self.now c.unwrap.result.now c.self.view_is (shown_by c.args.client es c.get.result c.unwrap.result c.get.ensures c.unwrap.ensures))
