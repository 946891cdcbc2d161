use Rattle.std.proofs.Common.{◌≡◌, map, take}
use Rattle.ipc_jobs.proofs.threads.memory_of.Given as goal

abbrev pub invariant-loop-client : goal.invariant-loop-client
invariant-loop-client l = l.memory.items ≡ map (λ e. e.caller.memory) (take l.client-index l.ended)
