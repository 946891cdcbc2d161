use Rattle.std.proofs.Common.{◌≡◌, ◌++◌, length}
use Rattle.std.specs.Prelude.{string_bytes}
use Rattle.row_notes.specs.Merging.{beyond, notes_text, of_row}
use Rattle.row_notes.specs.Noted.{left_of, next_head}
use Rattle.row_notes.proofs.merging.print_notes.Given as goal

-- the notes so far, and those that are left
abbrev pub invariant-loop-place : goal.invariant-loop-place
invariant-loop-place l =
    (l.initial.out.items ++ notes_text l.margin (of_row l.row (left_of l.initial.left)) ≡ l.out.items ++ notes_text l.margin (of_row l.row (left_of l.left)))
    × (beyond l.row (left_of l.initial.left) ≡ beyond l.row (left_of l.left))
    × (string_bytes l.head ≡ next_head (left_of l.left))

abbrev pub decreases-loop-place : goal.decreases-loop-place
decreases-loop-place l = length (left_of l.left)
