-- The rows of a listing (ipcs(1)).
use Rattle.std.specs.Prelude.{ℕ}
use Rattle.ipc_call.specs.declared.perms.Perm.{Perm}
use Rattle.ipc_call.specs.declared.replies.Status.{Status}
use Rattle.ipc_call.specs.declared.replies.Status.TheVariants as statuses
use Rattle.ipc_call.specs.declared.listings.Listed.{Listed}
use Rattle.ipc_call.specs.declared.listings.Row.{Row}
use Rattle.ipc_call.specs.declared.listings.Row.TheVariants as rows

abbrev pub listed_of : ℕ → Perm → Listed
listed_of id perm = record { key = perm.key; id = id; uid = perm.uid; mode = perm.mode }

-- the row of the object of an identifier that has this status
abbrev pub row_of : ℕ → Status → Row
row_of id (statuses.Queue queue) = rows.Queue (listed_of id queue.perm) queue.cbytes queue.qnum
row_of id (statuses.Set set) = rows.Set (listed_of id set.perm) set.nsems
row_of id (statuses.Segment segment) =
    rows.Segment (listed_of id segment.perm) segment.is_marked segment.size segment.nattch
