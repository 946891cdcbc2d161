use Rattle.life_laws.proofs.Interrupted.{tick-run}
use Rattle.life_laws.proofs.interrupts_of_nobody_tell_the_time.Goals as goal

pub returns : goal.returns
returns c = tick-run
