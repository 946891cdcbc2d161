use Rattle.std.proofs.Common.{◌∙◌, ℕ, List, ap, sym}
use Rattle.ipc_parked.specs.declared.parked.Arrival.{Arrival}
use Rattle.ipc_parked.specs.Parked.{comes_before}
use Rattle.ipc_parked.proofs.Line.{earlier_is, shown_by, shown_there}
use Rattle.ipc_parked.proofs.parked.Parked.is_earlier.Goals as goal

pub unwrap-requires : goal.unwrap-requires
unwrap-requires c = shown_there c.args.client c.self.inside.arrivals.stays c.args.self.now c.get.result c.self.view_is c.get.ensures c.requires.client

pub unwrap-requires-2 : goal.unwrap-requires-2
unwrap-requires-2 c = shown_there c.args.other c.self.inside.arrivals.stays c.args.self.now c.get-2.result c.self.view_is c.get-2.ensures c.requires.other

pub returns : goal.returns
returns c =
    let es = c.self.inside.arrivals.stays in
    earlier_is c.self.inside.arrivals.next c.args.client c.args.other c.unwrap.result.now c.unwrap-2.result.now es c.self.invariant.0
    (sym (shown_by c.args.client es c.get.result c.unwrap.result c.get.ensures c.unwrap.ensures))
    (sym (shown_by c.args.other es c.get-2.result c.unwrap-2.result c.get-2.ensures c.unwrap-2.ensures))
    ∙ ap (λ (ds : List (ℕ × Arrival)). comes_before c.args.client c.args.other ds) c.self.view_is
