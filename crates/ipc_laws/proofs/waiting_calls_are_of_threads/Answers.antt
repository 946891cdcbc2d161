use Rattle.ipc_laws.proofs.Fresh.{threads-run}
use Rattle.ipc_laws.proofs.waiting_calls_are_of_threads.Goals as goal

pub returns : goal.returns
returns c = threads-run
