use Rattle.std.proofs.Common.{arith, ◌∙◌}
use Rattle.ipc_history.specs.History.{run}
use Rattle.ipc_model.specs.State.{process_at}
use Rattle.thread_ends.specs.Leaving.{semadj_in}
use Rattle.thread_ends.proofs.Leavings.{none_more, one_more}
use Rattle.thread_ends.proofs.ends.add_set.Goals as goal

pub loop-num-preserved : goal.loop-num-preserved
loop-num-preserved c =
    let state = run c.args.space.now in
    let values = c.args.values.now in
    let so_far = c.loop-num.undone.items in
    let num = c.loop-num.num in
    one_more (semadj_in state (process_at state c.args.client) c.args.set) c.args.set num values so_far c.add_at.new.undone.items c.loop-num-test.true
    c.in_ok-add_at.ensures
    ∙ c.loop-num.invariant

pub returns : goal.returns
returns c =
    let state = run c.args.space.now in
    let past = c.loop-num-test.false in
    none_more (semadj_in state (process_at state c.args.client) c.args.set) c.args.set c.loop-num.num c.args.values.now c.loop-num.undone.items (omega (arith, past))
    ∙ c.loop-num.invariant
