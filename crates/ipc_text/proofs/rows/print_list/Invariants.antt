-- the lines so far
use Rattle.std.proofs.Common.{◌≡◌, ◌++◌, length, take}
use Rattle.std.specs.Prelude.{codes, decimal, flat_map, string_bytes}
use Rattle.ipc_text.specs.Rows.{indented}
use Rattle.ipc_text.proofs.rows.print_list.Given as goal

abbrev pub invariant-loop-row : goal.invariant-loop-row
invariant-loop-row l =
    string_bytes l.rows
    ≡ string_bytes l.fn.rows
    ++ (codes "list " ++ (decimal (length l.listed) ++ (codes "\n" ++ flat_map indented (take l.row-index l.listed))))
