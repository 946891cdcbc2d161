use Rattle.std.proofs.Common.{◌≡◌}
use Rattle.std.specs.Prelude.{map}
use Rattle.ipc_model.specs.State.{has_pid}
use Rattle.process_table.specs.Index.{as_ended, changed_if, count}
use Rattle.process_table.proofs.threads.Threads.end_all.Given as goal

-- the end of those that are left leads where that of all does
abbrev pub invariant-loop-client : goal.invariant-loop-client
invariant-loop-client l = map (changed_if (has_pid l.pid) as_ended) l.self ≡ map (changed_if (has_pid l.pid) as_ended) l.fn.self

-- those that are left
abbrev pub decreases-loop-client : goal.decreases-loop-client
decreases-loop-client l = count (has_pid l.pid) l.self
