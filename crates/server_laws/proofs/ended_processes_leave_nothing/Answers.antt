use Rattle.server_laws.proofs.Over.{always_lost, always_over}
use Rattle.server_laws.proofs.ended_processes_leave_nothing.Goals as goal

pub returns-clause-ended : goal.returns-clause-ended
returns-clause-ended c limits clients conns bounds inputs some supply now pid few = always_over limits clients conns bounds some inputs supply now pid few

pub returns-clause-lost : goal.returns-clause-lost
returns-clause-lost c limits clients conns bounds inputs some supply now token child found = always_lost limits clients conns bounds some inputs supply now token child found
