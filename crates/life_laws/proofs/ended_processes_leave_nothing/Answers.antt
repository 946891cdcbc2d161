use Rattle.life_laws.proofs.Ended.{gone-run}
use Rattle.life_laws.proofs.ended_processes_leave_nothing.Goals as goal

pub returns : goal.returns
returns c = gone-run
