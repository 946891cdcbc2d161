use Rattle.ipc_space.proofs.Once.{waits_once}
use Rattle.ipc_space.proofs.laws.no_client_waits_twice.Goals as goal

pub returns : goal.returns
returns c = waits_once
