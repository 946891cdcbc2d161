use Rattle.ipc_space.proofs.Permitted.{run_not_ready, run_permitted}
use Rattle.ipc_space.proofs.laws.waiting_calls_are_permitted_and_not_ready.Goals as goal

pub returns-clause-not_ready : goal.returns-clause-not_ready
returns-clause-not_ready c = run_not_ready

pub returns-clause-permitted : goal.returns-clause-permitted
returns-clause-permitted c = run_permitted
