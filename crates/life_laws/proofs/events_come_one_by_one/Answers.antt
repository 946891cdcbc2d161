use Rattle.life_laws.proofs.Steps.{run-with}
use Rattle.life_laws.proofs.events_come_one_by_one.Goals as goal

pub returns : goal.returns
returns c = run-with
