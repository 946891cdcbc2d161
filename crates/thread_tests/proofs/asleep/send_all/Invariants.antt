use Rattle.ipc_combiner.specs.States.{IsOf}
use Rattle.thread_tests.proofs.asleep.send_all.Given as goal

abbrev pub invariant-loop : goal.invariant-loop
invariant-loop g l = IsOf l.service.list l.idle.joined
