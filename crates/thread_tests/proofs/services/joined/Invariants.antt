use Rattle.std.proofs.Common.{All}
use Rattle.ipc_combiner.specs.States.{IsOf, IsUnjoinedOf}
use Rattle.thread_tests.proofs.services.joined.Given as goal

abbrev pub invariant-loop-client : goal.invariant-loop-client
invariant-loop-client g l = All (λ u. IsUnjoinedOf l.service.list u.fresh) l.client-iterator.rest.items × All (λ i. IsOf l.service.list i.joined) l.idles.items
