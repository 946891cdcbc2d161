use Rattle.std.proofs.Common.{arith, sym}
use Rattle.ipc_journal_text.proofs.reading.take_each.Goals as goal

pub returns : goal.returns
returns c =
    let same = rw c.in_default.is at c.loop-rest.invariant.same in
    let count = rw c.in_default.is at c.loop-rest.invariant.count in
    let small = c.loop-rest.invariant.small in
    (sym same, omega (arith, count))
