use Rattle.std.proofs.Common.{◌≡◌, ◌++◌, drop}
use Rattle.std.specs.Prelude.{string_bytes}
use Rattle.ipcsh_threads.specs.Rows.{count_rows}
use Rattle.ipcsh_threads.proofs.rows.print_counts.Given as goal

-- with the rows to come they are all
abbrev pub invariant-loop-client : goal.invariant-loop-client
invariant-loop-client l =
    string_bytes l.rows ++ count_rows (drop l.client l.names) (drop l.client l.counts) ≡ string_bytes l.fn.rows ++ count_rows l.names l.counts
