use Rattle.ipc_space.proofs.Few.{few_wait}
use Rattle.ipc_space.proofs.laws.no_more_calls_wait_than_clients.Goals as goal

pub returns : goal.returns
returns c = few_wait
