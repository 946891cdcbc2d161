use Rattle.std.proofs.Common.{◌≡◌}
use Rattle.std.proofs.lemmas.List.Elements.{All-rest}
use Rattle.ipc_bench.proofs.combining.joined_one.Goals as goal

pub loop-fresh-preserved : goal.loop-fresh-preserved
loop-fresh-preserved c = All-rest (λ f. f.seat.table_id ≡ c.args.list.now.table.shared.table_id) c.in-Some.fresh c.next.new.self.rest.items c.loop-fresh.fresh-iterator.rest.items c.in-Some.ensures.steps.0 c.loop-fresh.invariant
