use Rattle.life_laws.proofs.Interrupted.{interrupt-run}
use Rattle.life_laws.proofs.interrupts_are_granted.Goals as goal

pub returns : goal.returns
returns c h now client target lives admin live = interrupt-run h now client lives admin target live
