-- the text so far
use Rattle.std.proofs.Common.{◌≡◌, ◌++◌, take}
use Rattle.std.specs.Prelude.{flat_map, string_bytes}
use Rattle.ipc_journal_text.specs.CallText.{value_text}
use Rattle.ipc_journal_text.proofs.calls.print_values.Given as goal

abbrev pub invariant-loop-value : goal.invariant-loop-value
invariant-loop-value l =
    string_bytes l.text ≡ string_bytes l.fn.text ++ flat_map value_text (take l.value-index l.values)
