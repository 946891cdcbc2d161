use Rattle.std.proofs.Common.{◌≡◌}
use Rattle.pub_counter.specs.Service.{IsResting}
use Rattle.list_tests.proofs.counting.ask_all.Given as goal

abbrev pub invariant-loop-round : goal.invariant-loop-round
invariant-loop-round l = (l.joined.seat.table_id ≡ l.fn.joined.seat.table_id) × IsResting l.joined.client l.joined.seat.me.0
