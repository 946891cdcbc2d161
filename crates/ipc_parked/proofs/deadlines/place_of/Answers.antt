use Rattle.std.proofs.Common.{rules}
use Rattle.std.proofs.lemmas.List.Sorted.{IsPartitionPoint-from_clause}
use Rattle.ipc_parked.specs.Deadlines.{is_sooner}
use Rattle.ipc_parked.proofs.Ranks.{rank_parted, sorted_parted}
use Rattle.ipc_parked.proofs.deadlines.place_of.Goals as goal

pub returns : goal.returns
returns c =
    let rows = c.args.rows.now in
    let row = c.args.row in
    let point = IsPartitionPoint-from_clause (λ other. is_sooner other row) _ _ c.partition_point.ensures.partitioned (sorted_parted rows row c.requires) (λ a r q k. search rules) in
    rank_parted rows row c.partition_point.result c.partition_point.ensures.bound point
