use Rattle.life_laws.proofs.Ended.{exec-run}
use Rattle.life_laws.proofs.execs_are_granted.Goals as goal

pub returns : goal.returns
returns c = exec-run
