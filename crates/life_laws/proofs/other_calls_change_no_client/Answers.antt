use Rattle.life_laws.proofs.Steps.{clients-other, threads-other}
use Rattle.life_laws.proofs.other_calls_change_no_client.Goals as goal

pub returns-clause-threads : goal.returns-clause-threads
returns-clause-threads c = threads-other

pub returns-clause-credentials : goal.returns-clause-credentials
returns-clause-credentials c = clients-other
