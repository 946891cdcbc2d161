use Rattle.std.proofs.Common.{◌≡◌, length, true}
use Rattle.std.specs.Prelude.{IfSome}
use Rattle.ipc_model.specs.State.{State, creds_at, has_pid, thread_at}
use Rattle.ipc_model.specs.Plan.{Plan, decision, in_order}
use Rattle.ipc_namespace.specs.Namespace.{signals_from}
use Rattle.ipc_namespace.proofs.Earliest.{left}
use Rattle.ipc_namespace.proofs.Signalling.{signals_at}
use Rattle.ipc_namespace.proofs.namespace.Namespace.may_signal.Given as goal

-- those that were asked may be signalled
abbrev pub invariant-loop-next : goal.invariant-loop-next
invariant-loop-next l =
    ((p : Plan State) → decision (creds_at l.self l.client) (in_order (signals_at l.self l.pid l.next) p) ≡ decision (creds_at l.self l.client) (in_order (signals_from l.self l.pid 0) p))
    × IfSome l.next (λ target. has_pid l.pid (thread_at l.self target) ≡ true)

abbrev pub decreases-loop-next : goal.decreases-loop-next
decreases-loop-next l = left (length l.self.threads) l.next
