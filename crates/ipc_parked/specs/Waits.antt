-- The clients that wait on the objects of a kind, by identifier.
use Rattle.std.specs.Prelude.{◌≡◌, ℕ, ◌<◌, ◌≤◌, ◌==◌, ◌&&◌, ◌%◌, Bool, true, false, List, [], ◌∷◌, length, map, filter, take, drop, slice_get, slice_index_or, Option, Some, None, if◌then◌else◌}
use Rattle.std.specs.List.{AllByRecursion}
use Rattle.ipc_parked.specs.declared.waits.Wait.{Wait}

-- the rows, and for how many more there is room
pub record WaitsState : Type 0 where
  pub rows : List Wait
  pub spare : ℕ

-- the clients that wait on an object, in order of arrival
abbrev pub clients_at : ℕ → List Wait → List ℕ
clients_at id rows = map (λ row. row.client) (filter (λ row. row.id == id) rows)

-- all but the first of these clients that is this one
abbrev pub without_first : ℕ → List ℕ → List ℕ
without_first client [] = []
without_first client (c ∷ clients) = if c == client then clients else c ∷ without_first client clients

-- the identifiers don't fall
abbrev pub AreRising : List Wait → Type 0
AreRising [] = Unit {0}
AreRising (row ∷ rows) = AllByRecursion (λ later. row.id ≤ later.id) rows × AreRising rows

-- objects whose identifiers leave the same rest share a mark
abbrev pub mark_at : ℕ → ℕ
mark_at id = id % 64

-- no row is of an object whose mark isn't set
abbrev pub AreMarked : List Bool → List Wait → Type 0
AreMarked marks rows = AllByRecursion (λ row. slice_index_or marks (mark_at row.id) true ≡ true) rows

-- how many rows there are of objects below a bound
pub record IsPlace (rows : List Wait) (bound : ℕ) (at : ℕ) : Type 0 where
  pub within : at ≤ length rows
  pub below : AllByRecursion (λ row. row.id < bound) (take at rows)
  pub above : AllByRecursion (λ row. bound ≤ row.id) (drop at rows)

-- there is a row, of this client on this object
abbrev pub is_wait : ℕ → ℕ → Option Wait → Bool
is_wait id client None = false
is_wait id client (Some row) = row.id == id && row.client == client

-- the client of a row, where it is of this object
abbrev pub client_if : ℕ → Option Wait → Option ℕ
client_if id None = None
client_if id (Some row) = if row.id == id then Some row.client else None

-- none of the rows is of this client on this object
abbrev pub NoneIs : ℕ → ℕ → List Wait → Type 0
NoneIs id client rows = AllByRecursion (λ row. is_wait id client (Some row) ≡ false) rows

-- where the first row of this client on this object stands, None where there is none
abbrev pub IsFirst : ℕ → ℕ → List Wait → Option ℕ → Type 0
IsFirst id client rows None = NoneIs id client rows
IsFirst id client rows (Some at) = (is_wait id client (slice_get rows at) ≡ true) × NoneIs id client (take at rows)
