-- the capabilities so far with those of the fields that are left are those of the whole list
use Rattle.std.proofs.Common.{◌≡◌}
use Rattle.ipc_text.specs.Grammar.{with_capabilities}
use Rattle.ipc_words.specs.Words.{fields_of}
use Rattle.ipc_text.proofs.GrammarLemmas.{bytes_left, fields_left}
use Rattle.ipc_text.proofs.grammar.capability_list.Given as goal

abbrev pub invariant-loop-rest : goal.invariant-loop-rest
invariant-loop-rest l = with_capabilities l.caps.0 (fields_left l.rest) ≡ with_capabilities 0 (fields_of 44 l.fn.text)

abbrev pub decreases-loop-rest : goal.decreases-loop-rest
decreases-loop-rest l = bytes_left l.rest
