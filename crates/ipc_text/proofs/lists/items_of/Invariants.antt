-- the items so far with those of the words that are left are those of all the words
use Rattle.std.proofs.Common.{◌≡◌, ◌++◌, length}
use Rattle.std.specs.Prelude.{option_map}
use Rattle.ipc_text.specs.Grammar.{each_of}
use Rattle.ipc_words.specs.Words.{words_of}
use Rattle.ipc_text.proofs.lists.items_of.Given as goal

abbrev pub invariant-loop-word : goal.invariant-loop-word
invariant-loop-word g l =
    option_map (λ xs. l.items.items ++ xs) (each_of g.T.Item.item_of (words_of l.rest)) ≡ each_of g.T.Item.item_of (words_of l.fn.words)

abbrev pub decreases-loop-word : goal.decreases-loop-word
decreases-loop-word g l = length (words_of l.rest)
