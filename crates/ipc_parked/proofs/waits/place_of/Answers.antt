use Rattle.std.proofs.Common.{rules}
use Rattle.std.specs.Prelude.{nat_lt}
use Rattle.std.proofs.lemmas.List.Sorted.{IsPartitionPoint-from_clause}
use Rattle.ipc_parked.proofs.Rows.{place-parted, rising-parted}
use Rattle.ipc_parked.proofs.waits.place_of.Goals as goal

pub returns : goal.returns
returns c =
    let rows = c.args.rows.now in
    let bound = c.args.bound in
    let point = IsPartitionPoint-from_clause (λ row. nat_lt row.id bound) _ _ c.partition_point.ensures.partitioned (rising-parted rows bound c.requires) (λ a r q k. search rules) in
    place-parted rows bound c.partition_point.result c.partition_point.ensures.bound point
