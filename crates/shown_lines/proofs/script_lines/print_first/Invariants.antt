use Rattle.std.proofs.Common.{◌≡◌, ◌++◌, drop, take}
use Rattle.ipc_words.specs.Words.{words_of}
use Rattle.shown_lines.specs.ScriptLines.{words_text}
use Rattle.shown_lines.specs.declared.script_lines.Sort.TheVariants.{Plain}
use Rattle.shown_lines.proofs.script_lines.print_first.Given as goal

-- the words so far, and those of the first that are left
abbrev pub invariant-loop-left : goal.invariant-loop-left
invariant-loop-left l =
    (l.initial.out.items ++ words_text Plain (take l.initial.left (words_of l.initial.rest)) ≡ l.out.items ++ words_text Plain (take l.left (words_of l.rest)))
    × (drop l.initial.left (words_of l.initial.rest) ≡ drop l.left (words_of l.rest))

abbrev pub decreases-loop-left : goal.decreases-loop-left
decreases-loop-left l = l.left
