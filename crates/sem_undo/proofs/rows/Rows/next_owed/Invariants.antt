use Rattle.std.proofs.Common.{◌≡◌, ◌<◌, ◌≤◌, ◌^◌, ℕ, false, true}
use Rattle.std.specs.Prelude.{IfSome}
use Rattle.sem_undo.specs.Rows.{is_before, is_owed, row_at}
use Rattle.sem_undo.proofs.Each.{left}
use Rattle.sem_undo.proofs.rows.Rows.next_owed.Given as goal

-- at no set before the next one a semadj isn't 0
abbrev pub invariant-loop-next : goal.invariant-loop-next
invariant-loop-next l = record {
  paid : (s : ℕ) → l.from ≤ s → is_before l.next s ≡ true → is_owed (row_at l.self l.client s) ≡ false;
  from : IfSome l.next (λ next. l.from ≤ next);
  fits : IfSome l.next (λ next. next < 2 ^ 32);
}

abbrev pub decreases-loop-next : goal.decreases-loop-next
decreases-loop-next l = left l.next
