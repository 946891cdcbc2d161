use Rattle.std.proofs.Common.{◌≡◌}
use Rattle.std.specs.Prelude.{All}
use Rattle.ipc_bench.proofs.combining.joined_one.Given as goal

abbrev pub invariant-loop-fresh : goal.invariant-loop-fresh
invariant-loop-fresh l = All (λ f. f.seat.table_id ≡ l.list.table.shared.table_id) l.fresh-iterator.rest.items
