use Rattle.std.proofs.Common.{length, ◌-◌, ◌≡◌, ◌≤◌, take}
use Rattle.ipc_space.proofs.comparing.shared.Given as goal

abbrev pub invariant-loop-count : goal.invariant-loop-count
invariant-loop-count l = record {
  least : l.fn.from ≤ l.count;
  in_a : l.count ≤ length l.fn.a;
  in_b : l.count ≤ length l.fn.b;
  alike : take l.count l.fn.a ≡ take l.count l.fn.b;
}

abbrev pub decreases-loop-count : goal.decreases-loop-count
decreases-loop-count l = length l.a - l.count
