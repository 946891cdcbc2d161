use Rattle.ipc_laws.proofs.Fresh.{fresh-run}
use Rattle.ipc_laws.proofs.new_processes_are_fresh.Goals as goal

pub returns : goal.returns
returns c = fresh-run
