-- The rows at the end of the threads (the project's own).
use Rattle.std.specs.Prelude.{ℕ, List, [], ◌++◌, ◌==◌, codes, decimal, flat_map, if◌then◌else◌}
use Rattle.std.specs.Global.{Vec}
use Rattle.std.specs.List.{zip}
use Rattle.ipc_call.specs.declared.listings.Row.{Row}
use Rattle.ipc_text.specs.Rows.{object_rows}
use Rattle.ipc_jobs.specs.declared.counting.Counts.{Counts}

-- where an allocation failed for calls of the client, the row says for how many
abbrev pub memory_part : ℕ → List ℕ
memory_part n = if n == 0 then [] else codes " memory " ++ decimal n

-- NAME calls N refused R, or NAME calls N refused R memory M
abbrev pub count_row : List ℕ × Counts → List ℕ
count_row c = c.0 ++ (codes " calls " ++ (decimal c.1.calls ++ (codes " refused " ++ (decimal c.1.refusals
    ++ (memory_part c.1.memory ++ codes "\n")))))

-- a row for each client
abbrev pub count_rows : List (List ℕ) → List Counts → List ℕ
count_rows names counts = flat_map count_row (zip names counts)

-- the line of each object, and of a semaphore set its values
abbrev pub rows_of_line : Row × List ℕ → List ℕ
rows_of_line line = object_rows line.0 line.1

abbrev pub object_lines : List (Row × List ℕ) → List ℕ
object_lines lines = flat_map rows_of_line lines

abbrev pub object_line : Row × Vec ℕ → Row × List ℕ
object_line line = (line.0, line.1.items)
