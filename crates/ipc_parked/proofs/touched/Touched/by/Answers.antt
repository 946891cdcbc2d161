use Rattle.ipc_parked.proofs.Covering.{touches-nothing}
use Rattle.ipc_parked.proofs.touched.Touched.by.Goals as goal

pub returns-in_default-clause-covers : goal.returns-in_default-clause-covers
returns-in_default-clause-covers c s client w waits on =
    let others = c.in_default in
    absurd (touches-nothing c.args.call.now others.not-MsgSnd others.not-MsgRcv others.not-SemOp others.not-SemTimedOp others.not-SetVal others.not-SetAll others.not-IpcSet others.not-IpcRmid others.not-Exit others.not-Kill s client w waits on)
