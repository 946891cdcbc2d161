use Rattle.std.proofs.Common.{◌≡◌, ℕ, [], length, take, drop}
use Rattle.sem_set.specs.Met.{met_at}
use Rattle.sem_set.specs.Trials.{adj_in}
use Rattle.call_reasons.specs.Trials.{refused_from}
use Rattle.call_reasons.proofs.trials.refused_on.Given as goal

-- the operations so far are done, and those from here on decide
abbrev pub invariant-loop-oper : goal.invariant-loop-oper
invariant-loop-oper l = record {
  len : length l.set ≡ length l.fn.set;
  row : length l.row ≡ length l.fn.set;
  met : (n : ℕ) → met_at l.set (adj_in l.row) [] n ≡ met_at l.fn.set (adj_in l.fn.row) (take l.oper-index l.ops) n;
  told : refused_from l.fn.set (adj_in l.fn.row) (take l.oper-index l.ops) (drop l.oper-index l.ops) ≡ refused_from l.fn.set (adj_in l.fn.row) [] l.ops;
}
