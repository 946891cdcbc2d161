-- the words so far with those that are left are the name and all words, and those so far are plain
use Rattle.std.proofs.Common.{◌≡◌, ◌++◌, ◌∷◌, map, length}
use Rattle.std.specs.List.{list_all}
use Rattle.ipc_words.specs.Words.{is_plain, words_of}
use Rattle.ipc_commands.proofs.parts.arguments.Given as goal

abbrev pub invariant-loop-word : goal.invariant-loop-word
invariant-loop-word l =
    (map (λ text. text.now) l.texts.items ++ words_of l.rest ≡ l.fn.name ∷ words_of l.fn.words)
    × (list_all is_plain (words_of l.rest) ≡ list_all is_plain (words_of l.fn.words))

abbrev pub decreases-loop-word : goal.decreases-loop-word
decreases-loop-word l = length (words_of l.rest)
