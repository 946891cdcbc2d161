use Rattle.ipc_laws.proofs.Deadlines.{in-time-run}
use Rattle.ipc_laws.proofs.waiting_calls_are_in_time.Goals as goal

pub returns : goal.returns
returns c = in-time-run
