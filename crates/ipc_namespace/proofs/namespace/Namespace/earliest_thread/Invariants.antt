use Rattle.std.proofs.Common.{◌≡◌, ◌<◌, length, true}
use Rattle.std.specs.Prelude.{IfSome}
use Rattle.ipc_namespace.specs.Namespace.{earliest_of, is_named}
use Rattle.ipc_namespace.proofs.Earliest.{below, left}
use Rattle.ipc_namespace.proofs.namespace.Namespace.earliest_thread.Given as goal

-- the earliest of those below the next thread is known
abbrev pub invariant-loop-next : goal.invariant-loop-next
invariant-loop-next l =
    (l.earliest ≡ earliest_of l.self (below (is_named l.self l.cancelling) l.next)) × IfSome l.next (λ client. is_named l.self l.cancelling client ≡ true) × IfSome l.next (λ client. client < 4096)

abbrev pub decreases-loop-next : goal.decreases-loop-next
decreases-loop-next l = left (length l.self.threads) l.next
