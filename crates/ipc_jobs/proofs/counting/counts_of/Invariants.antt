use Rattle.std.proofs.Common.{◌≡◌, length, map, take}
use Rattle.ipc_jobs.specs.Courses.{IsCountOf}
use Rattle.ipc_jobs.proofs.Counted.{AreCounted}
use Rattle.ipc_jobs.proofs.counting.counts_of.Given as goal

abbrev pub invariant-loop-client : goal.invariant-loop-client
invariant-loop-client l = (length l.counts.items ≡ l.client) × AreCounted (IsCountOf l.space) l.counts.items × (map (λ n. n.memory) l.counts.items ≡ take l.client l.memory)
