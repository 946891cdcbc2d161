use Rattle.std.proofs.Common.{All}
use Rattle.ipc_combiner.specs.States.{IsOf}
use Rattle.thread_tests.proofs.passes.all_told.Given as goal

abbrev pub invariant-loop-flight : goal.invariant-loop-flight
invariant-loop-flight g l = All (λ f. IsOf l.service.list f.joined) l.flight-iterator.rest.items × All (λ t. IsOf l.service.list t.idle.joined) l.told.items
