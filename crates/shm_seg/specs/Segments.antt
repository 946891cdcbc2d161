-- What a segment holds, and what a read and a write at an offset take and leave (shmop(2)).
use Rattle.std.specs.Prelude.{ℕ, ◌+◌, nat_le, Bool, true, false, List, ◌++◌, length, take, drop, replicate}

-- its bytes, and whether it is marked for removal
pub record Contents : Type 0 where
  pub bytes : List ℕ
  pub is_marked : Bool

-- a new segment of this size
abbrev pub zeros : ℕ → Contents
zeros size = record { bytes = replicate size 0; is_marked = false }

abbrev pub marked : Contents → Contents
marked s = record s { is_marked = true }

-- so many bytes from the offset on are all within
abbrev pub lies_within : ℕ → ℕ → List ℕ → Bool
lies_within offset len bytes = nat_le (offset + len) (length bytes)

-- so many bytes from the offset on
abbrev pub part_of : ℕ → ℕ → List ℕ → List ℕ
part_of offset len bytes = take len (drop offset bytes)

-- new bytes in place of the old ones from the offset on
abbrev pub overwritten : ℕ → List ℕ → List ℕ → List ℕ
overwritten offset new old = take offset old ++ new ++ drop (offset + length new) old
