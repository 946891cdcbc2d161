use Rattle.std.proofs.Common.{◌≡◌, false}
use Rattle.pub_list.specs.Clients.{work, BelongsTo}
use Rattle.list_tests.proofs.sleeping.sleep_out.Given as goal

abbrev pub invariant-loop : goal.invariant-loop
invariant-loop g l = BelongsTo l.list l.sleeper × ((work l.sleeper).holds ≡ false)
