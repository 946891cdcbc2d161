use Rattle.std.proofs.Common.{◌≡◌, take}
use Rattle.std.specs.Prelude.{count_by}
use Rattle.ipc_jobs.specs.Rows.{is_refusal_of}
use Rattle.ipc_jobs.proofs.counting.count_refusals.Given as goal

abbrev pub invariant-loop-row : goal.invariant-loop-row
invariant-loop-row l = l.count ≡ count_by (is_refusal_of l.client) (take l.row-index l.rows)
