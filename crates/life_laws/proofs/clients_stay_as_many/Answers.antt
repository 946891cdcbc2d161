use Rattle.life_laws.proofs.Counted.{many-clients, many-threads}
use Rattle.life_laws.proofs.clients_stay_as_many.Goals as goal

pub returns-clause-threads : goal.returns-clause-threads
returns-clause-threads c = many-threads

pub returns-clause-credentials : goal.returns-clause-credentials
returns-clause-credentials c = many-clients
