use Rattle.std.proofs.Common.{All}
use Rattle.ipc_combiner.specs.Closing.{IsClientOf}
use Rattle.ipc_combiner.specs.States.{IsOf}
use Rattle.thread_tests.proofs.passes.handed_in.Given as goal

abbrev pub invariant-loop-each : goal.invariant-loop-each
invariant-loop-each l = let list = l.fn.service.list in All (λ t. IsOf list t.idle.joined) l.each-iterator.rest.items
    × All (λ c. IsClientOf list c) l.clients.items × IsClientOf list l.third × IsClientOf list l.fourth
