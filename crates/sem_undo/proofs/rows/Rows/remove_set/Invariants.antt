use Rattle.std.proofs.Common.{◌≡◌, ◌<◌, ◌^◌, ℕ}
use Rattle.std.specs.Prelude.{IfSome}
use Rattle.sem_undo.specs.Rows.{row_of, IsNoted, removed}
use Rattle.sem_undo.proofs.Each.{left, so_far}
use Rattle.sem_undo.proofs.rows.Rows.remove_set.Given as goal

-- the rows of the clients before the next
abbrev pub invariant-loop-next : goal.invariant-loop-next
invariant-loop-next l = record {
  noted : IsNoted l.self;
  rows : (c s : ℕ) → row_of l.self c s ≡ so_far l.next l.set removed (row_of l.fn.self) c s;
  fits : IfSome l.next (λ client. client < 2 ^ 64);
}

abbrev pub decreases-loop-next : goal.decreases-loop-next
decreases-loop-next l = left l.next
