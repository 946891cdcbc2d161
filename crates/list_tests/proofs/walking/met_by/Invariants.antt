use Rattle.std.proofs.Common.{IfSome}
use Rattle.pub_rule.specs.Lists.{IsOn}
use Rattle.pub_list.specs.Clients.{seen, BelongsTo}
use Rattle.list_tests.proofs.walking.met_by.Given as goal

abbrev pub invariant-loop-count : goal.invariant-loop-count
invariant-loop-count l = BelongsTo l.list l.joined × IfSome l.at (λ c. IsOn c (seen l.joined))
