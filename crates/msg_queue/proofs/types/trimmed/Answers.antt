use Rattle.std.proofs.Common.{◌∙◌, add-one, arith}
use Rattle.msg_queue.proofs.Rows.{next_ends, next_rising, unused_within}
use Rattle.msg_queue.proofs.types.trimmed.Goals as goal

pub loop-at-preserved : goal.loop-at-preserved
loop-at-preserved c =
    let rows = c.args.rows.now in
    let inv = c.loop-at.invariant in
    let unused = c.is_pair_unused.ensures c.loop-at-test.true in
    let within = unused_within rows c.loop-at.at unused in
    record {
      within = omega (arith, within);
      rising = rw add-one (next_rising rows c.loop-at.at inv.rising);
      ends = rw add-one (λ t. next_ends rows c.loop-at.at t inv.rising unused ∙ inv.ends t);
    }
