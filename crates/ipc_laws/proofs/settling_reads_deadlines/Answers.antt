use Rattle.ipc_laws.proofs.Deadlines.{step-same}
use Rattle.ipc_laws.proofs.settling_reads_deadlines.Goals as goal

pub returns : goal.returns
returns c = step-same
