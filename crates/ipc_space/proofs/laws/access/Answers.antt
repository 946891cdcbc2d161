use Rattle.ipc_history.proofs.Access.{access-denied, access-granted}
use Rattle.ipc_space.proofs.Waited.{ended_by_rights}
use Rattle.ipc_space.proofs.laws.access.Goals as goal

pub returns-clause-granted : goal.returns-clause-granted
returns-clause-granted c = λ h e answer legal. access-granted h e answer

pub returns-clause-denied : goal.returns-clause-denied
returns-clause-denied c = λ h e rule legal. access-denied h e rule

pub returns-clause-waited : goal.returns-clause-waited
returns-clause-waited c = ended_by_rights
