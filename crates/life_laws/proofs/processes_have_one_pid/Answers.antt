use Rattle.life_laws.proofs.Pids.{one-run}
use Rattle.life_laws.proofs.processes_have_one_pid.Goals as goal

pub returns : goal.returns
returns c = one-run
