use Rattle.std.proofs.Common.{ap, arith, ◌∙◌}
use Rattle.ipc_history.specs.History.{History}
use Rattle.ipc_server.proofs.Opened.{free_supervisor}
use Rattle.ipc_server.proofs.opening.ledger_for.Goals as goal

pub apply-requires-clause-free : goal.apply-requires-clause-free
apply-requires-clause-free c = free_supervisor c.in_ok-ledger.ledger.history _ c.know_legal.ensures (ap (λ (h : History). h.events) c.in_ok-ledger.ensures.history)
