use Rattle.ipc_wire.proofs.Encodings.{one_encoding}
use Rattle.ipc_wire.proofs.laws.message_has_one_encoding.Goals as goal

pub returns : goal.returns
returns c = one_encoding
