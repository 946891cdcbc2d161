-- The index of the types: rows by rising type, one for each type that has messages.
use Rattle.std.specs.Prelude.{◌≡◌, ℕ, ◌≤◌, Bool, true, false, not, ◌||◌, ℤ, int_lt}
use Rattle.std.specs.Prelude.{List, [], ◌∷◌, length, take, drop, slice_get}
use Rattle.std.specs.Prelude.{Option, Some, None, is_some, IsSome, if◌then◌else◌}
use Rattle.std.specs.List.{AllByRecursion}
use Rattle.std.specs.Ordering.{int_eq}
use Rattle.msg_queue.specs.declared.nodes.Ends.{Ends}
use Rattle.msg_queue.specs.declared.types.Row.{Row}
use Rattle.msg_queue.specs.declared.types.Spot.{Spot}
use Rattle.msg_queue.specs.Links.{no_ends}

-- the rows, and how many more fit with no allocation
pub record TypesState : Type 0 where
  pub rows : List Row
  pub spare : ℕ

-- the ends of a type, none where it has no row
abbrev pub ends_in : List Row → ℤ → Ends
ends_in [] mtype = no_ends
ends_in (row ∷ rows) mtype = if int_eq row.mtype mtype then row.ends else ends_in rows mtype

-- the ends in a row, if there is one
abbrev pub ends_here : Option Row → Ends
ends_here None = no_ends
ends_here (Some row) = row.ends

-- there is a row, and it is that of the type
abbrev pub is_row_of : ℤ → Option Row → Bool
is_row_of mtype None = false
is_row_of mtype (Some row) = int_eq row.mtype mtype

-- there is a row, and its type is lower
abbrev pub is_lower_than : ℤ → Option Row → Bool
is_lower_than mtype None = false
is_lower_than mtype (Some row) = int_lt row.mtype mtype

-- its type has messages
abbrev pub has_messages : Row → Bool
has_messages row = is_some row.ends.first

-- it has a first or a last message
abbrev pub is_used : Row → Bool
is_used row = is_some row.ends.first || is_some row.ends.last

-- there is a row, and it has neither
abbrev pub is_unused_in : Option Row → Bool
is_unused_in None = false
is_unused_in (Some row) = not (is_used row)

-- the types rise
abbrev pub AreRising : List Row → Type 0
AreRising [] = Unit {0}
AreRising (row ∷ rows) = AllByRecursion (λ later. int_lt row.mtype later.mtype ≡ true) rows × AreRising rows

-- where a type's row stands, or would stand
pub record IsPlace (rows : List Row) (mtype : ℤ) (at : ℕ) : Type 0 where
  pub within : at ≤ length rows
  pub below : AllByRecursion (λ row. int_lt row.mtype mtype ≡ true) (take at rows)
  pub above : AllByRecursion (λ row. int_lt row.mtype mtype ≡ false) (drop at rows)

-- the place of the spot's type in rows that rise, and whether there is a row of it
pub record IsSpot (rows : List Row) (spot : Spot) : Type 0 where
  pub rising : AreRising rows
  pub place : IsPlace rows spot.mtype spot.at
  pub is_there : spot.is_there ≡ is_row_of spot.mtype (slice_get rows spot.at)

-- these are the ends of the type, it has messages, and no lower type has
abbrev pub IsLeast : List Row → ℤ × Ends → Type 0
IsLeast rows found =
    (ends_in rows found.0 ≡ found.1) × IsSome found.1.first
    × ((mtype : ℤ) → IsSome (ends_in rows mtype).first → int_lt mtype found.0 ≡ false)
