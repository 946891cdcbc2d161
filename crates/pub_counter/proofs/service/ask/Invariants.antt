use Rattle.std.proofs.Common.{◌≡◌, false}
use Rattle.pub_list.specs.Joined.{work}
use Rattle.pub_counter.proofs.Asking.{IsPending}
use Rattle.pub_counter.proofs.service.ask.Given as goal

abbrev pub invariant-loop-turns : goal.invariant-loop-turns
invariant-loop-turns l = (l.joined.seat.table_id ≡ l.fn.joined.seat.table_id) × (l.joined.client ≡ l.fn.joined.client) × ((work l.joined.seat).holds ≡ false) × IsPending l.fn.joined.client l.fn.amount l.fn.joined.seat.me.0 l.joined.seat.me.0

abbrev pub decreases-loop-turns : goal.decreases-loop-turns
decreases-loop-turns l = l.turns
