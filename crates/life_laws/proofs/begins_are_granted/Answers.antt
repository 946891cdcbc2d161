use Rattle.life_laws.proofs.Starts.{begin-run}
use Rattle.life_laws.proofs.begins_are_granted.Goals as goal

pub returns : goal.returns
returns c = begin-run
