use Rattle.std.proofs.Common.{take}
use Rattle.sem_set.proofs.Left.{IsLeft}
use Rattle.sem_set.proofs.trials.apply.Given as goal

-- what the operations so far leave
abbrev pub invariant-loop-oper : goal.invariant-loop-oper
invariant-loop-oper l = IsLeft l.fn.semaphores l.pid (take l.oper-index l.ops) l.semaphores
