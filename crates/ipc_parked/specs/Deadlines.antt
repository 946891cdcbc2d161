-- The deadlines of the calls that wait, from the soonest on.
use Rattle.std.specs.Prelude.{◌≡◌, ℕ, ◌<◌, ◌≤◌, ◌==◌, ◌&&◌, ◌||◌, ◌⊎◌, Bool, true, false, nat_lt, List, [], ◌∷◌, ◌++◌, filter, length, take, drop, slice_get, Option, Some, None, if◌then◌else◌}
use Rattle.std.specs.List.{AllByRecursion}
use Rattle.ipc_parked.specs.declared.arrivals.Stay.{Stay}
use Rattle.ipc_parked.specs.declared.deadlines.Due.{Due}

-- the rows, and for how many more there is room
pub record DeadlinesState : Type 0 where
  pub rows : List Due
  pub spare : ℕ

-- one row is before another: of a sooner deadline, or of the same and of an earlier arrival
abbrev pub is_sooner : Due → Due → Bool
is_sooner a b = nat_lt a.deadline b.deadline || (a.deadline == b.deadline && nat_lt a.number b.number)

abbrev pub AreSorted : List Due → Type 0
AreSorted [] = Unit {0}
AreSorted (row ∷ rows) = AllByRecursion (λ later. is_sooner row later ≡ true) rows × AreSorted rows

-- the rows of an arrival
abbrev pub rows_at : ℕ → List Due → List Due
rows_at number rows = filter (λ row. row.number == number) rows

-- the row of a call, where it has a deadline
abbrev pub dues_of : ℕ → ℕ → Option ℕ → List Due
dues_of client number None = []
dues_of client number (Some deadline) = (record { deadline = deadline; number = number; client = client }) ∷ []

-- the rows of the calls of an arrival
abbrev pub dues_at : ℕ → List (ℕ × Stay) → List Due
dues_at number [] = []
dues_at number (e ∷ es) = (if e.1.number == number then dues_of e.0 e.1.number e.1.arrival.deadline else []) ++ dues_at number es

-- the rows are those of the calls that have a deadline
abbrev pub AreDues : List Due → List (ℕ × Stay) → Type 0
AreDues rows es = (number : ℕ) → rows_at number rows ≡ dues_at number es

-- how many rows are before this one
pub record IsRank (rows : List Due) (row : Due) (at : ℕ) : Type 0 where
  pub within : at ≤ length rows
  pub below : AllByRecursion (λ other. is_sooner other row ≡ true) (take at rows)
  pub above : AllByRecursion (λ other. is_sooner other row ≡ false) (drop at rows)

abbrev pub IsIn : Due → List Due → Type 0
IsIn row [] = ⊥
IsIn row (other ∷ rows) = (other ≡ row) ⊎ IsIn row rows

-- the soonest deadline, None where there is none
abbrev pub IsSoonest : List Due → Option ℕ → Type 0
IsSoonest rows None = rows ≡ []
IsSoonest rows (Some deadline) = ((row : Due) × IsIn row rows × (row.deadline ≡ deadline)) × AllByRecursion (λ row. deadline ≤ row.deadline) rows

-- of the rows whose deadline is reached the one that arrived first
abbrev pub IsFirstReached : ℕ → List Due → Option Due → Type 0
IsFirstReached clock rows None = AllByRecursion (λ row. clock < row.deadline) rows
IsFirstReached clock rows (Some first) = IsIn first rows × (first.deadline ≤ clock) × AllByRecursion (λ row. row.deadline ≤ clock → first.number ≤ row.number) rows

-- the one of two that arrived first
abbrev pub first_of : Option Due → Due → Due
first_of None row = row
first_of (Some first) row = if nat_lt first.number row.number then first else row
