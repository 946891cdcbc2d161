use Rattle.server_laws.proofs.Passed.{passed_rightly}
use Rattle.server_laws.proofs.memory_is_passed_to_who_attached_it.Goals as goal

pub returns : goal.returns
returns c supply now e s = passed_rightly supply now e s
