use Rattle.std.proofs.Common.{ℕ, ◌+◌, ◌<◌, ◌≤◌, length, take, drop}
use Rattle.std.specs.List.{AllByRecursion}
use Rattle.ipc_parked.specs.declared.arrivals.Stay.{Stay}
use Rattle.ipc_parked.proofs.arrivals.Arrivals.place_of.Given as goal

-- those before low are of lower numbers, those after so many more are not
abbrev pub invariant-loop-size : goal.invariant-loop-size
invariant-loop-size l = record {
  within : l.low + l.size ≤ length l.self.stays;
  below : AllByRecursion (λ (e : ℕ × Stay). e.1.number < l.number) (take l.low l.self.stays);
  above : AllByRecursion (λ (e : ℕ × Stay). l.number ≤ e.1.number) (drop (l.low + l.size) l.self.stays);
}

abbrev pub decreases-loop-size : goal.decreases-loop-size
decreases-loop-size l = l.size
