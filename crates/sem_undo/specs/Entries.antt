-- What exit undoes: entries by client, set and semaphore number (semop(2), SEM_UNDO).
use Rattle.std.specs.Prelude.{◌≢◌, ℕ, ◌==◌, ◌&&◌, ℤ, pos, Bool, not, unwrap_or, if◌then◌else◌}
use Rattle.std.specs.declared.cmp.Ordering.{Ordering}
use Rattle.std.specs.Ordering.{int_eq, nat_cmp, ordering_then}
use Rattle.std.specs.FinMap as finite

-- the semaphore of this number of the set, for the client
pub record Adjusted : Type 0 where
  pub client : ℕ
  pub set : ℕ
  pub num : ℕ

abbrev pub adjusted_cmp : Adjusted → Adjusted → Ordering
adjusted_cmp a b =
    ordering_then (nat_cmp a.client b.client) (ordering_then (nat_cmp a.set b.set) (nat_cmp a.num b.num))

-- a client at a set
pub record Place : Type 0 where
  pub client : ℕ
  pub set : ℕ

abbrev pub place_cmp : Place → Place → Ordering
place_cmp a b = ordering_then (nat_cmp a.client b.client) (nat_cmp a.set b.set)

-- the semadj that aren't 0: what exit adds to each value
abbrev pub Entries : Type 0
Entries = finite.FinMap adjusted_cmp ℤ

-- beside them the length of each row that there is memory for
pub record Undone : Type 0 where
  pub entries : Entries
  pub rows : finite.FinMap place_cmp ℕ

abbrev pub nothing_undone : Undone
nothing_undone = record { entries = finite.empty; rows = finite.empty }

-- the length of a row, 0 where there is none
abbrev pub row_len : Undone → ℕ → ℕ → ℕ
row_len u client set = unwrap_or (finite.get u.rows (record { client = client; set = set })) 0

abbrev pub adj_of : Entries → ℕ → ℕ → ℕ → ℤ
adj_of entries client set num =
    unwrap_or (finite.get entries (record { client = client; set = set; num = num })) (pos 0)

-- a semadj of the client at the set isn't 0
abbrev pub HasEntry : Entries → ℕ → ℕ → Type 0
HasEntry entries client set = (num : ℕ) × (adj_of entries client set num ≢ pos 0)

-- 0 is as good as no entry
abbrev pub with_adj : Entries → Adjusted → ℤ → Entries
with_adj entries key adj = if int_eq adj (pos 0) then finite.remove entries key else finite.insert entries key adj

-- the entries of these semaphores of the set go, those of every client
abbrev pub cleared : Entries → ℕ → (ℕ → Bool) → Entries
cleared entries set which = finite.retain_keys entries (λ key. not (key.set == set && which key.num))

-- the entries of a client go
abbrev pub without_client : Entries → ℕ → Entries
without_client entries client = finite.retain_keys entries (λ key. not (key.client == client))

-- the entries of a client at a set go
abbrev pub without_row : Entries → ℕ → ℕ → Entries
without_row entries client set = finite.retain_keys entries (λ key. not (key.client == client && key.set == set))
