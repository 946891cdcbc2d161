use Rattle.std.proofs.Common.{◌≡◌, ◌++◌, length}
use Rattle.ipc_words.specs.Words.{words_of}
use Rattle.shown_lines.specs.Folding.{behind}
use Rattle.shown_lines.proofs.folding.print_behind.Given as goal

-- the words so far, and those that are left
abbrev pub invariant-loop-word : goal.invariant-loop-word
invariant-loop-word l =
    l.initial.out.items ++ behind l.width l.initial.used (words_of l.initial.rest) ≡ l.out.items ++ behind l.width l.used (words_of l.rest)

abbrev pub decreases-loop-word : goal.decreases-loop-word
decreases-loop-word l = length (words_of l.rest)
