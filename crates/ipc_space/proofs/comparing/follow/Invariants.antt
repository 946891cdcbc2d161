use Rattle.std.proofs.Common.{length, ◌-◌, ◌≡◌, ◌≤◌, take}
use Rattle.ipc_history.specs.History.{rows_of}
use Rattle.ipc_space.specs.Replays.{IsHistoryOf}
use Rattle.ipc_space.proofs.comparing.follow.Given as goal

abbrev pub invariant-loop-at : goal.invariant-loop-at
invariant-loop-at l = record {
  rows : rows_of l.space ≡ take l.at l.fn.rows;
  within : l.at ≤ length l.fn.rows;
  known : IsHistoryOf l.fn.space.limits l.fn.space.clients l.space;
}

abbrev pub decreases-loop-at : goal.decreases-loop-at
decreases-loop-at l = length l.fn.rows - l.at
