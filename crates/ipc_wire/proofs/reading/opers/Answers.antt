use Rattle.std.proofs.Common.{arith}
use Rattle.ipc_wire.proofs.Payloads.{opers_on}
use Rattle.ipc_wire.proofs.reading.opers.Goals as goal

pub loop-rest-preserved : goal.loop-rest-preserved
loop-rest-preserved c =
    opers_on c.loop-rest.opers.items c.push.new.self.items c.oper.result c.loop-rest.rest.now c.args.payload.now
    (omega (arith, c.loop-rest-test.true)) c.oper.ensures c.in_ok-push.ensures.items c.loop-rest.invariant
