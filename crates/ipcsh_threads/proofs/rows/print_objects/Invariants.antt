use Rattle.std.proofs.Common.{◌≡◌, ◌++◌, map, take}
use Rattle.std.specs.Prelude.{string_bytes}
use Rattle.ipcsh_threads.specs.Rows.{object_line, object_lines}
use Rattle.ipcsh_threads.proofs.rows.print_objects.Given as goal

-- the lines so far are printed
abbrev pub invariant-loop-row : goal.invariant-loop-row
invariant-loop-row l =
    string_bytes l.rows ≡ string_bytes l.fn.rows ++ object_lines (map object_line (take l.row-index l.lines))
