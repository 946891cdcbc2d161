use Rattle.ipc_space.proofs.Balance.{told_once, told_known}
use Rattle.ipc_space.proofs.laws.an_event_tells_each_client_once.Goals as goal

pub returns-clause-once : goal.returns-clause-once
returns-clause-once c = told_once

pub returns-clause-known : goal.returns-clause-known
returns-clause-known c = told_known
