use Rattle.life_laws.proofs.Starts.{name-run}
use Rattle.life_laws.proofs.names_are_granted.Goals as goal

pub returns : goal.returns
returns c h now client pid lives some free = name-run h now client lives pid some free
