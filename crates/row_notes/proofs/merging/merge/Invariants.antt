use Rattle.std.proofs.Common.{◌≡◌, ◌++◌, length}
use Rattle.std.specs.Prelude.{string_bytes}
use Rattle.row_notes.specs.Merging.{explained}
use Rattle.row_notes.specs.Noted.{left_of, next_head}
use Rattle.row_notes.proofs.merging.merge.Given as goal

-- the rows so far, and what is left of them with the notes that are left
abbrev pub invariant-loop-row : goal.invariant-loop-row
invariant-loop-row l =
    (explained l.initial.rest (left_of l.initial.left_above) (left_of l.initial.left_below) ≡ l.out.items ++ explained l.rest (left_of l.left_above) (left_of l.left_below))
    × (string_bytes l.upper ≡ next_head (left_of l.left_above))
    × (string_bytes l.lower ≡ next_head (left_of l.left_below))

abbrev pub decreases-loop-row : goal.decreases-loop-row
decreases-loop-row l = length l.rest
