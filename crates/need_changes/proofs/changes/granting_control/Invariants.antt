use Rattle.std.proofs.Common.{◌≡◌, ◌++◌, length}
use Rattle.std.specs.Prelude.{filter}
use Rattle.need_changes.specs.Changes.{grants_control}
use Rattle.need_changes.proofs.changes.granting_control.Given as goal

-- those so far, and those of what is left
abbrev pub invariant-loop-change : goal.invariant-loop-change
invariant-loop-change l = filter (grants_control l.creds l.perm) l.initial.rest ≡ l.changes.items ++ filter (grants_control l.creds l.perm) l.rest

abbrev pub decreases-loop-change : goal.decreases-loop-change
decreases-loop-change l = length l.rest
