use Rattle.std.proofs.Common.{All}
use Rattle.ipc_combiner.specs.States.{IsOf}
use Rattle.thread_tests.proofs.passes.all_posted.Given as goal

abbrev pub invariant-loop-idle : goal.invariant-loop-idle
invariant-loop-idle l = All (λ i. IsOf l.service.list i.joined) l.idle-iterator.rest.items × All (λ f. IsOf l.service.list f.joined) l.flights.items
