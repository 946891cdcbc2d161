use Rattle.std.proofs.Common.{ap, arith, length, sym, ◌∙◌}
use Rattle.ipc_history.specs.History.{run}
use Rattle.ipc_namespace.specs.Wanting.{have_all_come}
use Rattle.ipc_server.specs.Held.{Held}
use Rattle.ipc_server.proofs.Applied.{few_come}
use Rattle.ipc_server.proofs.server.Server.know_few.Goals as goal

pub returns : goal.returns
returns c =
    let events = ap (λ (h : Held). length h.server.history.events) c.self.view_is in
    ap (λ (h : Held). have_all_come (run h.server.history)) (sym c.self.view_is)
    ∙ few_come c.self.inside.ledger.history c.self.invariant.few (omega (arith, events, c.requires.counted))
