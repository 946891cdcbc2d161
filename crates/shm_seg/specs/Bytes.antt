-- The bytes of a segment as the code holds them.
use Rattle.std.specs.Prelude.{ℕ, List, replicate}
use Rattle.shm_seg.specs.declared.bytes.Bytes.{Bytes}
use Rattle.shm_seg.specs.declared.bytes.Bytes.TheVariants.{Zeros, Here}

-- those of which no memory is taken are each 0
abbrev pub bytes_in : Bytes → List ℕ
bytes_in (Zeros size) = replicate size 0
bytes_in (Here all) = all.items
