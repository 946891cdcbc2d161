-- The rows that were handed out.
use Rattle.std.specs.Prelude.{List, [], Option, Some, None}
use Rattle.ipc_call.specs.declared.replies.JournalRow.{JournalRow}
use Rattle.ipc_journal.specs.declared.given.Given.{Given}

abbrev pub rows_before : Option Given → List JournalRow
rows_before None = []
rows_before (Some given) = given.rows
