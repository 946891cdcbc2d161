-- What contracts see of a journal.
use Rattle.std.specs.Prelude.{ℕ, ◌-◌, ◌^◌, min, List}
use Rattle.ipc_call.specs.declared.replies.JournalRow.{JournalRow}

-- the rows, oldest first; how many of them, the oldest, were handed out; and for how many more there is room
pub record Entries : Type 0 where
  pub rows : List JournalRow
  pub given : ℕ
  pub room : ℕ

-- the room in a list of this capacity and length, so that the rows stay fewer than 2^64
abbrev pub room_for : (capacity len given : ℕ) → ℕ
room_for capacity len given = min (capacity - len) (2 ^ 64 - 1 - given - len)
