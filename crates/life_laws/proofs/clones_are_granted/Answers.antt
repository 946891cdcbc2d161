use Rattle.life_laws.proofs.Starts.{clone-run}
use Rattle.life_laws.proofs.clones_are_granted.Goals as goal

pub returns : goal.returns
returns c h now client child lives known over = clone-run h now client lives child known over
