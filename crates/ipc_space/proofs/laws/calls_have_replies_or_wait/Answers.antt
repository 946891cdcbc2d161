use Rattle.ipc_space.proofs.Balance.{balanced}
use Rattle.ipc_space.proofs.laws.calls_have_replies_or_wait.Goals as goal

pub returns : goal.returns
returns c = balanced
