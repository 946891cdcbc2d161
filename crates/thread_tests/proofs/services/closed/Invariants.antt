use Rattle.std.proofs.Common.{◌≡◌, ◌+◌, All, length}
use Rattle.ipc_combiner.specs.Closing.{IsClientOf}
use Rattle.ipc_combiner.specs.States.{IsOf}
use Rattle.thread_tests.proofs.services.closed.Given as goal

abbrev pub invariant-loop-each : goal.invariant-loop-each
invariant-loop-each g l = All (λ a. IsOf l.service.list a.idle.joined) l.each-iterator.rest.items × All (λ c. IsClientOf l.service.list c) l.clients.items × (length l.clients.items + length l.each-iterator.rest.items ≡ length l.fn.asked.items)
