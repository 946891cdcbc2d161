use Rattle.ipc_space.proofs.Numbers.{next_bounded}
use Rattle.ipc_space.proofs.laws.processes_are_few.Goals as goal

pub returns : goal.returns
returns c = next_bounded
