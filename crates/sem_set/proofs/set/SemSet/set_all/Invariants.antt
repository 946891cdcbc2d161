use Rattle.std.proofs.Common.{◌≡◌, length, map, take}
use Rattle.sem_set.specs.Sets.{set_to}
use Rattle.sem_set.proofs.set.SemSet.set_all.Given as goal

-- those so far are set
abbrev pub invariant-loop-num : goal.invariant-loop-num
invariant-loop-num l = record {
  len : length l.self ≡ length l.values;
  set : take l.num l.self ≡ map (set_to l.pid) (take l.num l.values);
}
