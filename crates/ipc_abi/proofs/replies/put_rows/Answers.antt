use Rattle.std.proofs.Common.{List, ◌++◌, map, take, drop, set, ap, ◌∙◌}
use Rattle.ipc_abi.specs.declared.objects.RawObject.{RawObject}
use Rattle.ipc_abi.specs.Objects.{object_of_row}
use Rattle.ipc_abi.proofs.Rows.{one_more}
use Rattle.ipc_abi.proofs.replies.put_rows.Goals as goal

pub loop-k-preserved : goal.loop-k-preserved
loop-k-preserved c =
    ap (λ (os : List RawObject). set os c.loop-k.k c.of_row.result) c.loop-k.invariant
    ∙ ap (λ (o : RawObject). set (map object_of_row (take c.loop-k.k c.args.rows.now) ++ drop c.loop-k.k c.args.objects.now) c.loop-k.k o)
    (c.of_row.ensures ∙ ap object_of_row c.index-rows-k.is)
    ∙ one_more object_of_row c.args.rows.now c.args.objects.now c.loop-k.k c.index-rows-k.result c.loop-k-test.true c.requires
