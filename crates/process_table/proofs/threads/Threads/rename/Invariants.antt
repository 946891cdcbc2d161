use Rattle.std.proofs.Common.{◌≡◌}
use Rattle.std.specs.Prelude.{map}
use Rattle.ipc_model.specs.State.{has_pid}
use Rattle.process_table.specs.Index.{changed_if, count, under_pid}
use Rattle.process_table.proofs.threads.Threads.rename.Given as goal

-- another pid for those that are left leads where that for all does
abbrev pub invariant-loop-client : goal.invariant-loop-client
invariant-loop-client l = map (changed_if (has_pid l.pid) (under_pid l.other)) l.self ≡ map (changed_if (has_pid l.pid) (under_pid l.other)) l.fn.self

-- those that are left
abbrev pub decreases-loop-client : goal.decreases-loop-client
decreases-loop-client l = count (has_pid l.pid) l.self
