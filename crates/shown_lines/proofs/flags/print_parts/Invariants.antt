use Rattle.std.proofs.Common.{◌≡◌, ◌++◌, length}
use Rattle.shown_lines.specs.Flags.{parts_text}
use Rattle.shown_lines.proofs.flags.print_parts.Given as goal

-- the names so far, and what is left of them and of the flags
abbrev pub invariant-loop-flag : goal.invariant-loop-flag
invariant-loop-flag l =
    l.initial.out.items ++ parts_text l.initial.rest l.initial.left ≡ l.out.items ++ parts_text l.rest l.left

abbrev pub decreases-loop-flag : goal.decreases-loop-flag
decreases-loop-flag l = length l.rest
