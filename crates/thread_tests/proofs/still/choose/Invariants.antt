use Rattle.std.proofs.Common.{All, IfSome}
use Rattle.ipc_combiner.specs.States.{IsOf}
use Rattle.thread_tests.proofs.still.choose.Given as goal

abbrev pub invariant-loop-idle : goal.invariant-loop-idle
invariant-loop-idle l = All (λ i. IsOf l.fn.service.list i.joined) l.idle-iterator.rest.items
    × IfSome l.one (λ i. IsOf l.fn.service.list i.joined) × All (λ i. IsOf l.fn.service.list i.joined) l.others.items
