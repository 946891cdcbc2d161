use Rattle.std.proofs.Common.{◌≡◌, ℕ, ◌<◌, ◌≤◌, arith, length, rules, true}
use Rattle.std.specs.Prelude.{nat_lt}
use Rattle.std.proofs.lemmas.List.Sorted.{IsPartitionPoint-from_clause}
use Rattle.process_table.proofs.Rising.{place-parted, rising-parted}
use Rattle.process_table.proofs.rows.search.Goals as goal

pub returns : goal.returns
returns c =
    let rows = c.args.rows.now in
    let bound = c.args.bound in
    let point = IsPartitionPoint-from_clause (λ row. nat_lt row bound) _ _ c.partition_point.ensures.partitioned (rising-parted rows bound c.requires) (λ a r q k. search rules) in
    place-parted rows bound c.partition_point.result c.partition_point.ensures.bound point
