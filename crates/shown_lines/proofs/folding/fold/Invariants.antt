use Rattle.std.proofs.Common.{◌≡◌, ◌++◌, length}
use Rattle.shown_lines.specs.Folding.{folded_all, lines_text}
use Rattle.shown_lines.proofs.folding.fold.Given as goal

-- the lines so far, and those that are left
abbrev pub invariant-loop-line : goal.invariant-loop-line
invariant-loop-line l =
    l.initial.out.items ++ lines_text (folded_all l.width l.initial.rest) ≡ l.out.items ++ lines_text (folded_all l.width l.rest)

abbrev pub decreases-loop-line : goal.decreases-loop-line
decreases-loop-line l = length l.rest
