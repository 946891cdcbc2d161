use Rattle.std.proofs.Common.{All}
use Rattle.ipc_combiner.specs.States.{IsOf}
use Rattle.thread_tests.proofs.still.count_granted.Given as goal

abbrev pub invariant-loop-flight : goal.invariant-loop-flight
invariant-loop-flight g l = All (λ f. IsOf l.service.list f.joined) l.flight-iterator.rest.items
