use Rattle.std.proofs.Common.{length}
use Rattle.call_reasons.proofs.LastEvent.{IsBehind}
use Rattle.call_reasons.proofs.cases.latest_in.Given as goal

-- the rows behind those that are left have no call
abbrev pub invariant-loop-row : goal.invariant-loop-row
invariant-loop-row l = IsBehind l.fn.rows l.left

abbrev pub decreases-loop-row : goal.decreases-loop-row
decreases-loop-row l = length l.left
