use Rattle.life_laws.proofs.Steps.{clients-run, threads-run}
use Rattle.life_laws.proofs.clients_change_by_granted_calls.Goals as goal

pub returns-clause-threads : goal.returns-clause-threads
returns-clause-threads c = threads-run

pub returns-clause-credentials : goal.returns-clause-credentials
returns-clause-credentials c = clients-run
