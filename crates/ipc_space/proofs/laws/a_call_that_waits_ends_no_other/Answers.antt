use Rattle.ipc_space.proofs.Alone.{waits_alone}
use Rattle.ipc_space.proofs.laws.a_call_that_waits_ends_no_other.Goals as goal

pub returns : goal.returns
returns c = waits_alone
