use Rattle.server_laws.proofs.Over.{always_known}
use Rattle.server_laws.proofs.processes_are_known_until_they_end.Goals as goal

pub returns : goal.returns
returns c limits clients conns bounds inputs some supply now e pid other known = always_known limits clients conns bounds some inputs supply now e pid other known
