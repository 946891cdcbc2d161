use Rattle.ipc_combiner.specs.States.{IsOf}
use Rattle.thread_tests.proofs.services.passes.Given as goal

abbrev pub invariant-loop : goal.invariant-loop
invariant-loop l = IsOf l.service.list l.idle.joined
