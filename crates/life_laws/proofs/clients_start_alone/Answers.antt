use Rattle.life_laws.proofs.Openings.{first-thread}
use Rattle.life_laws.proofs.clients_start_alone.Goals as goal

pub returns : goal.returns
returns c = first-thread
