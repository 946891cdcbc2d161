use Rattle.ipc_combiner.specs.States.{IsOf}
use Rattle.thread_tests.proofs.services.ask_all.Given as goal

abbrev pub invariant-loop-round : goal.invariant-loop-round
invariant-loop-round g l = IsOf l.service.list l.idle.joined
