-- what the lines that are left say behind those that were read is what all of them say
use Rattle.std.proofs.Common.{◌≡◌, ◌+◌, ◌-◌, ◌^◌, ◌≤◌, min, length}
use Rattle.ipc_journal_text.proofs.FieldLemmas.{bytes_left, lines_left}
use Rattle.ipc_journal_text.specs.Gives.{shown}
use Rattle.ipc_journal_text.specs.Reading.{read_lines}
use Rattle.ipc_words.specs.Words.{fields_of}
use Rattle.ipc_journal_text.proofs.reading.take_each.Given as goal

abbrev pub invariant-loop-rest : goal.invariant-loop-rest
invariant-loop-rest l = record {
  same : read_lines l.number (shown l.read) (lines_left l.rest) ≡ read_lines 0 (shown l.initial.read) (fields_of 10 l.fn.lines);
  count : min (l.number + length (lines_left l.rest)) (2 ^ 64 - 1) ≡ min (length (fields_of 10 l.fn.lines)) (2 ^ 64 - 1);
  small : l.number ≤ 2 ^ 64 - 1;
}

abbrev pub decreases-loop-rest : goal.decreases-loop-rest
decreases-loop-rest l = bytes_left l.rest
