use Rattle.std.proofs.Common.{ℕ, ◌<◌, ◌≡◌, [], drop, get_or, length, take}
use Rattle.sem_set.specs.Met.{met_at}
use Rattle.sem_set.specs.Trials.{adj_in, trial_from, trial_on}
use Rattle.sem_set.proofs.Running.{no_met, no_oper}
use Rattle.sem_set.proofs.trials.run.Given as goal

-- what the first operation on each semaphore named so far meets
abbrev pub invariant-loop-named : goal.invariant-loop-named
invariant-loop-named l =
    (k : ℕ) → k < l.named-index → get_or l.met (get_or l.ops k no_oper).num no_met ≡ met_at l.semaphores (adj_in l.adjs) [] (get_or l.ops k no_oper).num

-- what the next operation on each semaphore named meets; none so far stops, and the rest decides
abbrev pub invariant-loop-place : goal.invariant-loop-place
invariant-loop-place l = record {
  met : (k : ℕ) → k < length l.ops → get_or l.met (get_or l.ops k no_oper).num no_met ≡ met_at l.semaphores (adj_in l.adjs) (take l.place l.ops) (get_or l.ops k no_oper).num;
  told : trial_from l.place l.semaphores (adj_in l.adjs) (take l.place l.ops) (drop l.place l.ops) ≡ trial_on l.semaphores (adj_in l.adjs) l.ops;
}
