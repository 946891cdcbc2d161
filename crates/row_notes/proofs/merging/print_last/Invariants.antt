use Rattle.std.proofs.Common.{◌≡◌, ◌++◌, length}
use Rattle.std.specs.Prelude.{filter}
use Rattle.row_notes.specs.Merging.{is_end, margin_below, notes_text}
use Rattle.row_notes.specs.Noted.{left_of}
use Rattle.row_notes.proofs.merging.print_last.Given as goal

-- the notes so far, and those that are left
abbrev pub invariant-loop-place : goal.invariant-loop-place
invariant-loop-place l =
    l.initial.out.items ++ notes_text margin_below (filter (λ n. is_end n.head) (left_of l.initial.left))
    ≡ l.out.items ++ notes_text margin_below (filter (λ n. is_end n.head) (left_of l.left))

abbrev pub decreases-loop-place : goal.decreases-loop-place
decreases-loop-place l = length (left_of l.left)
