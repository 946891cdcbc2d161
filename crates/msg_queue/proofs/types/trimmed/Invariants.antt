use Rattle.std.proofs.Common.{◌≡◌, ◌-◌, ◌≤◌, ℤ, drop, length}
use Rattle.msg_queue.specs.Types.{AreRising, ends_in}
use Rattle.msg_queue.proofs.types.trimmed.Given as goal

abbrev pub invariant-loop-at : goal.invariant-loop-at
invariant-loop-at l = record {
  within : l.at ≤ length l.rows;
  rising : AreRising (drop l.at l.rows);
  ends : (t : ℤ) → ends_in (drop l.at l.rows) t ≡ ends_in (drop l.fn.start l.rows) t;
}

abbrev pub decreases-loop-at : goal.decreases-loop-at
decreases-loop-at l = length l.rows - l.at
