use Rattle.std.proofs.Common.{◌≡◌, ℕ, ◌<◌, false}
use Rattle.ipc_model.specs.State.{has_exited}
use Rattle.ipc_namespace.proofs.namespace.Namespace.free_client.Given as goal

-- those that were looked at haven't ended
abbrev pub invariant-loop-client : goal.invariant-loop-client
invariant-loop-client l = (c : ℕ) → c < l.client → has_exited l.self c ≡ false
