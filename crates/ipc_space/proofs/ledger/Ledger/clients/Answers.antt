use Rattle.std.proofs.Common.{length, ap, ◌∙◌}
use Rattle.ipc_space.specs.Spaces.{Parts}
use Rattle.ipc_space.proofs.Histories.{clients-reached}
use Rattle.ipc_space.proofs.ledger.Ledger.clients.Goals as goal

pub returns-clause-count : goal.returns-clause-count
returns-clause-count c =
    let s = c.self.inside in
    c.clients.ensures.count ∙ clients-reached s.namespace s.opening.items s.journal.rows s.events c.self.invariant.0 ∙ ap (λ (p : Parts). length p.history.clients) c.self.view_is
