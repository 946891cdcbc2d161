use Rattle.std.proofs.Common.{◌≡◌, ◌++◌, drop, length, take}
use Rattle.std.specs.Prelude.{◌||◌}
use Rattle.sem_set.specs.Exits.{any_from, undone_from}
use Rattle.sem_set.specs.Trials.{adj_in}
use Rattle.sem_set.proofs.exits.undo.Given as goal

-- those so far are undone, and with the rest it is the whole
abbrev pub invariant-loop-num : goal.invariant-loop-num
invariant-loop-num l = record {
  len : length l.semaphores ≡ length l.fn.semaphores;
  left : take l.num l.semaphores ++ undone_from (adj_in l.adjs) l.pid l.num (drop l.num l.semaphores) ≡ undone_from (adj_in l.adjs) l.pid 0 l.fn.semaphores;
  any : (l.any || any_from (adj_in l.adjs) l.num (drop l.num l.semaphores)) ≡ any_from (adj_in l.adjs) 0 l.fn.semaphores;
}
