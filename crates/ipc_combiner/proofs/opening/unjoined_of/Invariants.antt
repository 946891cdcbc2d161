use Rattle.std.proofs.Common.{◌≡◌, ◌++◌, map}
use Rattle.ipc_combiner.proofs.opening.unjoined_of.Given as goal

abbrev pub invariant-loop-each : goal.invariant-loop-each
invariant-loop-each l = map (λ u. u.fresh) l.unjoined.items ++ l.each-iterator.rest.items ≡ l.fn.fresh.items
