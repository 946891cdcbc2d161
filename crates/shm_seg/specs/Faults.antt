-- Why bytes aren't read or written.
use Rattle.shm_seg.specs.declared.segment.Fault.{Fault}
use Rattle.shm_seg.specs.declared.segment.Fault.TheVariants.{Refused, Memory}

-- an allocation failed
abbrev pub IsMemory : Fault → Type 0
IsMemory (Refused rule) = ⊥
IsMemory (Memory memory) = Unit {0}
