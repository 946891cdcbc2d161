use Rattle.std.proofs.Common.{◌≡◌, ◌++◌, length}
use Rattle.ipc_words.specs.Words.{words_of}
use Rattle.shown_lines.specs.ScriptLines.{words_text}
use Rattle.shown_lines.proofs.script_lines.print_words.Given as goal

-- the words so far, and those that are left
abbrev pub invariant-loop-word : goal.invariant-loop-word
invariant-loop-word l =
    l.initial.out.items ++ words_text l.sort (words_of l.initial.rest) ≡ l.out.items ++ words_text l.sort (words_of l.rest)

abbrev pub decreases-loop-word : goal.decreases-loop-word
decreases-loop-word l = length (words_of l.rest)
