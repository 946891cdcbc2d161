use Rattle.life_laws.proofs.Few.{creds-stay, life-stays, pid-stays, process-stays}
use Rattle.life_laws.proofs.few_clients_change.Goals as goal

pub returns-clause-credentials : goal.returns-clause-credentials
returns-clause-credentials c = creds-stay

pub returns-clause-process : goal.returns-clause-process
returns-clause-process c = process-stays

pub returns-clause-pid : goal.returns-clause-pid
returns-clause-pid c = pid-stays

pub returns-clause-life : goal.returns-clause-life
returns-clause-life c = life-stays
