-- Listings of the objects of a kind (ipcs(1)). A listing asks nothing: it shows each object to those who may read it.
use Rattle.std.specs.Prelude.{ℕ, is_none, if◌then◌else◌, List, [], ◌++◌, filter_map, Option, Some, None, option_map, option_and_then}
use Rattle.ipc_call.specs.Listings.{row_of}
use Rattle.ipc_call.specs.declared.calls.Kind.TheVariants as kinds
use Rattle.ipc_call.specs.declared.listings.Row.{Row}
use Rattle.ipc_call.specs.declared.replies.Answer.TheVariants.{Rows}
use Rattle.ipc_call.specs.declared.replies.Status.{Status}
use Rattle.ipc_ids.specs.Table.{ids_of}
use Rattle.ipc_perm.specs.Access.{Permission, denial, to_read}
use Rattle.ipc_model.specs.State.{Caller, Credentials, Kind, Perm, State}
use Rattle.ipc_model.specs.Semaphores.{values_at}
use Rattle.ipc_model.specs.Controls.{status_of}
use Rattle.ipc_model.specs.Plan.{Plan, Grant}

-- the identifiers of the objects of a kind, by rising slot
abbrev pub ids_of_kind : State → Kind → List ℕ
ids_of_kind s kinds.Queue = ids_of s.queues
ids_of_kind s kinds.Sems = ids_of s.sems.sets
ids_of_kind s kinds.Segment = ids_of s.shared.segments

-- the row of an object, to those who may read it
abbrev pub row_to : Credentials → ℕ → Perm × Status → Option Row
row_to c id status = if is_none (denial c (Permission status.0 to_read)) then Some (row_of id status.1) else None

abbrev pub row_at : State → Credentials → Kind → ℕ → Option Row
row_at s c kind id = option_and_then (row_to c id) (status_of s kind id)

-- the rows of the objects that these credentials may read
unfoldable pub rows_to : State → Credentials → Kind → List Row
rows_to s c kind = filter_map (λ id. row_at s c kind id) (ids_of_kind s kind)

abbrev pub list_objects : State → Caller → Kind → Plan State
list_objects s who kind = Grant (Rows (rows_to s who.creds kind)) s

-- the values of the semaphores of a set; an object of another kind has none
abbrev pub values_in : State → Kind → ℕ → List ℕ
values_in s kinds.Sems id = values_at s.sems id
values_in s kind id = []

abbrev pub line_at : State → Kind → ℕ → Option (Row × List ℕ)
line_at s kind id = option_map (λ status. (row_of id status.1, values_in s kind id)) (status_of s kind id)

-- each object of a kind, whoever may read it, with the values of a set
unfoldable pub lines_of_kind : State → Kind → List (Row × List ℕ)
lines_of_kind s kind = filter_map (λ id. line_at s kind id) (ids_of_kind s kind)

-- each object
abbrev pub lines_of : State → List (Row × List ℕ)
lines_of s = lines_of_kind s kinds.Queue ++ (lines_of_kind s kinds.Sems ++ lines_of_kind s kinds.Segment)
