use Rattle.ipc_wire.proofs.ReadBack.{read_back}
use Rattle.ipc_wire.proofs.laws.message_is_read_back.Goals as goal

pub returns : goal.returns
returns c = read_back
