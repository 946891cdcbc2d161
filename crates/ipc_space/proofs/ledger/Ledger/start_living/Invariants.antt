use Rattle.std.proofs.Common.{◌≡◌, ◌-◌, ◌≤◌, []}
use Rattle.ipc_history.specs.History.{run}
use Rattle.ipc_space.specs.Openings.{exits}
use Rattle.ipc_space.proofs.ledger.Ledger.start_living.Given as goal

-- those before this one have exited, and no call waits
abbrev pub invariant-loop-client : goal.invariant-loop-client
invariant-loop-client l = record {
  history : l.ledger.history ≡ record { limits = l.fn.limits; clients = l.fn.clients.items; events = exits l.live (l.client - l.live) };
  given : l.ledger.given ≡ 0;
  none : (run l.ledger.history).parked ≡ [];
  within : l.client - l.live ≤ l.count - l.live;
}
