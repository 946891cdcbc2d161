-- The rows that entries are kept in.
use Rattle.std.specs.Prelude.{◌≡◌, ◌≤◌, ◌==◌, nat_lt, ℕ, ◌+◌, ◌-◌, ℤ, pos, Bool, true, not, if◌then◌else◌}
use Rattle.std.specs.Prelude.{List, [], ◌∷◌, ◌++◌, length, replicate, slice_set, slice_index_or}
use Rattle.std.specs.Prelude.{Option, None, Some, option_map, unwrap_or}
use Rattle.std.specs.FinMap as finite
use Rattle.std.specs.Global.{Vec}
use Rattle.std.specs.List.{list_any}
use Rattle.std.specs.Ordering.{eq_by_cmp, int_eq}
use Rattle.client_map.specs.declared.map.Key.{Key}
use Rattle.client_map.specs.Keys.{key, key_cmp}
use Rattle.sem_undo.specs.declared.rows.Rows.{Rows}
use Rattle.sem_undo.specs.Entries.{Entries, place_cmp, Undone, with_adj, without_row}

-- the semadj of a number in a row; past its end 0
abbrev pub adj_in : List ℤ → ℕ → ℤ
adj_in row num = slice_index_or row num (pos 0)

abbrev pub items_of : Option (Vec ℤ) → Option (List ℤ)
items_of o = option_map (λ v. v.items) o

-- the rows by client and set
abbrev pub RowMap : Type 0
RowMap = finite.FinMap key_cmp (Vec ℤ)

abbrev pub row_in : RowMap → ℕ → ℕ → Option (List ℤ)
row_in m client set = items_of (finite.get m (key client set))

abbrev pub row_of : Rows → ℕ → ℕ → Option (List ℤ)
row_of u client set = row_in u.rows client set

-- the row, empty where there is none
abbrev pub row_at : Rows → ℕ → ℕ → List ℤ
row_at u client set = unwrap_or (row_of u client set) []

abbrev pub is_here : ℕ → ℕ → ℕ → ℕ → Bool
is_here client set c s = eq_by_cmp key_cmp (key c s) (key client set)

-- a row with zeros at its end, as long as this or longer
abbrev pub grown : ℕ → List ℤ → List ℤ
grown nsems row = row ++ replicate (nsems - length row) (pos 0)

-- the entries of a row from this number on, over others
unfoldable pub over_row : ℕ → ℕ → ℕ → List ℤ → Entries → Entries
over_row client set num [] entries = entries
over_row client set num (adj ∷ adjs) entries =
    with_adj (over_row client set (num + 1) adjs entries) (record { client = client; set = set; num = num }) adj

-- the entries of all rows
unfoldable pub entries_of : List (Key × Vec ℤ) → Entries
entries_of [] = finite.empty
entries_of (e ∷ es) = over_row e.0.client e.0.number 0 e.1.items (without_row (entries_of es) e.0.client e.0.number)

abbrev pub entries_in : RowMap → Entries
entries_in m = entries_of (finite.entries m)

-- the length of each row
unfoldable pub lens_of : List (Key × Vec ℤ) → finite.FinMap place_cmp ℕ
lens_of [] = finite.empty
lens_of (e ∷ es) =
    finite.insert (lens_of es) (record { client = e.0.client; set = e.0.number }) (length e.1.items)

abbrev pub lens_in : RowMap → finite.FinMap place_cmp ℕ
lens_in m = lens_of (finite.entries m)

abbrev pub undone_in : RowMap → Undone
undone_in m = record { entries = entries_in m; rows = lens_in m }

-- a client with a row at a set is noted there, and a set's number has 32 bits
pub record IsNoted (u : Rows) : Type 0 where
  pub clients : (c s : ℕ) → finite.get u.clients (key s c) ≡ None → row_of u c s ≡ None
  pub sets : (c s : ℕ) → 4294967296 ≤ s → row_of u c s ≡ None

-- what the rows at a set become; where no row is there, there is none afterwards
abbrev pub each_at : ℕ → (Option (List ℤ) → Option (List ℤ)) → (ℕ → ℕ → Option (List ℤ)) → ℕ → ℕ → Option (List ℤ)
each_at set change rows c s = if s == set then change (rows c s) else rows c s

-- a client comes before this one; each comes before none
abbrev pub is_before : Option ℕ → ℕ → Bool
is_before None c = true
is_before (Some n) c = nat_lt c n

abbrev pub zeroed_at : ℕ → Option (List ℤ) → Option (List ℤ)
zeroed_at num row = option_map (λ r. slice_set r num (pos 0)) row

abbrev pub zeroed : Option (List ℤ) → Option (List ℤ)
zeroed row = option_map (λ r. replicate (length r) (pos 0)) row

abbrev pub removed : Option (List ℤ) → Option (List ℤ)
removed row = None

-- a semadj of a row isn't 0
abbrev pub is_owed : List ℤ → Bool
is_owed row = list_any (λ adj. not (int_eq adj (pos 0))) row
