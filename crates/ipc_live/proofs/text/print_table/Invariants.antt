-- the entries so far
use Rattle.std.proofs.Common.{◌≡◌, ◌++◌, take}
use Rattle.std.specs.Prelude.{string_bytes}
use Rattle.ipc_live.specs.Text.{table_text}
use Rattle.ipc_live.proofs.text.print_table.Given as goal

abbrev pub invariant-loop-entry : goal.invariant-loop-entry
invariant-loop-entry l =
    string_bytes l.out ≡ string_bytes l.fn.out ++ table_text (take l.entry-index l.entries)
