use Rattle.std.proofs.Common.{◌≡◌}
use Rattle.pub_rule.specs.WorkSteps.{asking}
use Rattle.pub_list.specs.Clients.{work}
use Rattle.ipc_combiner.specs.Asking.{IsFurther}
use Rattle.ipc_combiner.specs.States.{IsOf}
use Rattle.ipc_combiner.proofs.states.Idle.call.Given as goal

abbrev pub invariant-loop : goal.invariant-loop
invariant-loop g l = (goal.iterator-loop g).can_next l.iterator' × (goal.iterator-loop g).is_finite l.iterator' × IsOf l.service.list l.flight.joined × (l.flight.joined.client ≡ l.fn.self.joined.client)
    × IsFurther (asking l.fn.self.joined.client (l.fn.now, l.fn.call) (work l.fn.self.joined)) (work l.flight.joined)
