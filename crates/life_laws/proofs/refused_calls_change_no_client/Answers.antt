use Rattle.life_laws.proofs.Steps.{clients-refused, threads-refused}
use Rattle.life_laws.proofs.refused_calls_change_no_client.Goals as goal

pub returns-clause-threads : goal.returns-clause-threads
returns-clause-threads c = threads-refused

pub returns-clause-credentials : goal.returns-clause-credentials
returns-clause-credentials c = clients-refused
