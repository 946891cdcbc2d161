use Rattle.life_laws.proofs.Starts.{fork-run}
use Rattle.life_laws.proofs.forks_are_granted.Goals as goal

pub returns : goal.returns
returns c h now client child pid lives known over some free = fork-run h now client lives child pid known over some free
