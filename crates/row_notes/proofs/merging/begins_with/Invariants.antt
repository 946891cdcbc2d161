use Rattle.std.proofs.Common.{◌≡◌, length, nat_eq}
use Rattle.std.specs.List.{starts_with}
use Rattle.row_notes.proofs.merging.begins_with.Given as goal

-- what is left decides
abbrev pub invariant-loop-byte : goal.invariant-loop-byte
invariant-loop-byte l = starts_with nat_eq l.initial.rest l.initial.left ≡ starts_with nat_eq l.rest l.left

abbrev pub decreases-loop-byte : goal.decreases-loop-byte
decreases-loop-byte l = length l.left
