use Rattle.std.proofs.Common.{◌≡◌}
use Rattle.pub_counter.specs.Service.{IsResting}
use Rattle.ipc_bench.proofs.combining.each_step.Given as goal

abbrev pub invariant-loop : goal.invariant-loop
invariant-loop l = (l.joined.seat.table_id ≡ l.list.table.shared.table_id) × IsResting l.joined.client l.joined.seat.me.0
