use Rattle.std.proofs.Common.{◌≡◌}
use Rattle.ipc_explain.proofs.explainer.Explainer.print_waiters.Given as goal

-- looking leaves the namespace as it is
abbrev pub invariant-loop-client : goal.invariant-loop-client
invariant-loop-client l = l.space ≡ l.fn.space
