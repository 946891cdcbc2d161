use Rattle.std.proofs.Common.{◌≡◌, ◌++◌, length}
use Rattle.std.specs.Prelude.{filter}
use Rattle.need_changes.specs.Changes.{grants}
use Rattle.need_changes.proofs.changes.granting.Given as goal

-- those so far, and those of what is left
abbrev pub invariant-loop-change : goal.invariant-loop-change
invariant-loop-change l = filter (grants l.creds l.perm l.want) l.initial.rest ≡ l.changes.items ++ filter (grants l.creds l.perm l.want) l.rest

abbrev pub decreases-loop-change : goal.decreases-loop-change
decreases-loop-change l = length l.rest
