use Rattle.life_laws.proofs.Ended.{ended-waits}
use Rattle.life_laws.proofs.ended_clients_do_not_wait.Goals as goal

pub returns : goal.returns
returns c = ended-waits
