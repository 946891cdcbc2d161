use Rattle.std.proofs.Common.{◌≡◌, take}
use Rattle.std.specs.Prelude.{count_by}
use Rattle.ipc_jobs.proofs.threads.count_held.Given as goal

abbrev pub invariant-loop-client : goal.invariant-loop-client
invariant-loop-client l = l.held ≡ count_by (λ e. e.held) (take l.client-index l.ended)
