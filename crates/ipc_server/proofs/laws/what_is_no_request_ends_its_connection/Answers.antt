use Rattle.ipc_server.proofs.Refused.{ends_connection}
use Rattle.ipc_server.proofs.laws.what_is_no_request_ends_its_connection.Goals as goal

pub returns : goal.returns
returns c s supply now conn token peer sender bytes why there refused = ends_connection s now conn token supply peer sender bytes why there refused
