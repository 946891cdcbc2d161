use Rattle.ipc_history.proofs.Runs.{tidy-run}
use Rattle.ipc_laws.proofs.processes_are_tidy.Goals as goal

pub returns : goal.returns
returns c = tidy-run
