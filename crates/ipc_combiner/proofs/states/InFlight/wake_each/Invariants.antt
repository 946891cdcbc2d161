use Rattle.std.proofs.Common.{◌≡◌}
use Rattle.pub_list.specs.Clients.{work}
use Rattle.ipc_combiner.specs.States.{IsOf}
use Rattle.ipc_combiner.proofs.states.InFlight.wake_each.Given as goal

abbrev pub invariant-loop-client : goal.invariant-loop-client
invariant-loop-client l = IsOf l.service.list l.self.joined × (l.self.joined.client ≡ l.fn.self.joined.client)
    × (work l.self.joined ≡ work l.fn.self.joined)
