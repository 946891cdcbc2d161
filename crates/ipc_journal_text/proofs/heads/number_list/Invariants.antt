-- the numbers so far with those of the fields that are left are those of the whole list
use Rattle.std.proofs.Common.{◌≡◌, ◌++◌}
use Rattle.std.specs.Prelude.{option_map}
use Rattle.ipc_text.proofs.GrammarLemmas.{bytes_left, fields_left}
use Rattle.ipc_text.specs.Grammar.{numbers_32}
use Rattle.ipc_words.specs.Words.{fields_of}
use Rattle.ipc_journal_text.proofs.heads.number_list.Given as goal

abbrev pub invariant-loop-rest : goal.invariant-loop-rest
invariant-loop-rest l =
    option_map (λ ns. l.numbers.items ++ ns) (numbers_32 (fields_left l.rest)) ≡ numbers_32 (fields_of 44 l.fn.text)

abbrev pub decreases-loop-rest : goal.decreases-loop-rest
decreases-loop-rest l = bytes_left l.rest
