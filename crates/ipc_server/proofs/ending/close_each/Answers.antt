use Rattle.std.proofs.Common.{arith, ◌<◌, length, ◌∙◌}
use Rattle.ipc_server.specs.Lives.{without}
use Rattle.ipc_server.specs.Servers.{is_of, is_process}
use Rattle.ipc_server.proofs.Closed.{close_step, told_step}
use Rattle.ipc_server.proofs.ending.close_each.Goals as goal

pub loop-at-preserved : goal.loop-at-preserved
loop-at-preserved c =
    let xs = c.args.conns.now.items in
    let ys = c.loop-at.conns.items in
    let w = without (is_of (is_process c.args.pid)) in
    let within : c.loop-at.at < length c.args.conns.now.items = omega (arith, c.loop-at-test.true, c.len-at-end.ensures, c.args.conns.now.ok) in
    record {
      count = c.close_one.ensures.count ∙ c.loop-at.invariant.count;
      closed = c.close_one.ensures.conns ∙ close_step w xs ys c.loop-at.at within c.loop-at.invariant.closed;
      told = told_step w xs ys c.loop-at.at within c.loop-at.invariant.closed c.args.pid c.loop-at.outputs.list c.close_one.new.outputs.list c.close_one.ensures.told ∙ c.loop-at.invariant.told;
      room = omega (arith, c.loop-at.invariant.room, c.close_one.ensures.room);
      cost = omega (arith, c.loop-at.invariant.cost, c.close_one.ensures.room);
    }
