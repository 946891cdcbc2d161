use Rattle.life_laws.proofs.Starts.{exit-run}
use Rattle.life_laws.proofs.exits_are_granted.Goals as goal

pub returns : goal.returns
returns c = exit-run
