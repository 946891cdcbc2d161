-- The index of the threads that haven't ended: rows that rise, each a pid with a client.
use Rattle.std.specs.Prelude.{ℕ, ◌+◌, ◌*◌, ◌<◌, ◌≤◌, ◌==◌, Bool, false, nat_lt, List, [], ◌∷◌, length, take, drop, Option, Some, None}
use Rattle.std.specs.List.{AllByRecursion, list_any}

-- the rows, and how many there is room for
pub record RowsState : Type 0 where
  pub rows : List ℕ
  pub capacity : ℕ

-- the row of a client under a pid
abbrev pub row_of : ℕ → ℕ → ℕ
row_of pid client = pid * 4294967296 + client

-- the row is among these
abbrev pub holds : ℕ → List ℕ → Bool
holds row rows = list_any (λ other. other == row) rows

-- each row is above those before it
abbrev pub AreRising : List ℕ → Type 0
AreRising [] = Unit {0}
AreRising (row ∷ rows) = AllByRecursion (λ later. row < later) rows × AreRising rows

-- how many rows there are below a bound
pub record IsPlace (rows : List ℕ) (bound : ℕ) (at : ℕ) : Type 0 where
  pub within : at ≤ length rows
  pub below : AllByRecursion (λ row. row < bound) (take at rows)
  pub above : AllByRecursion (λ row. bound ≤ row) (drop at rows)

-- there is a row, and it is below a bound
abbrev pub is_below : ℕ → Option ℕ → Bool
is_below bound None = false
is_below bound (Some row) = nat_lt row bound
