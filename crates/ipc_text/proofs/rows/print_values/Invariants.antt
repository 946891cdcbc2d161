-- the values so far
use Rattle.std.proofs.Common.{◌≡◌, ◌++◌, take}
use Rattle.std.specs.Prelude.{codes, flat_map, string_bytes}
use Rattle.ipc_text.specs.Rows.{value_text}
use Rattle.ipc_text.proofs.rows.print_values.Given as goal

abbrev pub invariant-loop-value : goal.invariant-loop-value
invariant-loop-value l =
    string_bytes l.rows ≡ string_bytes l.fn.rows ++ (codes "values" ++ flat_map value_text (take l.value-index l.values))
