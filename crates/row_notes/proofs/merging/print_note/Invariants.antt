use Rattle.std.proofs.Common.{◌≡◌, ◌++◌, length}
use Rattle.ipc_words.specs.Lines.{split}
use Rattle.row_notes.specs.Merging.{note_lines}
use Rattle.row_notes.proofs.merging.print_note.Given as goal

-- the lines so far, and those that are left
abbrev pub invariant-loop-rest : goal.invariant-loop-rest
invariant-loop-rest l =
    l.initial.out.items ++ note_lines l.margin (split l.initial.rest).whole ≡ l.out.items ++ note_lines l.margin (split l.rest).whole

abbrev pub decreases-loop-rest : goal.decreases-loop-rest
decreases-loop-rest l = length l.rest
