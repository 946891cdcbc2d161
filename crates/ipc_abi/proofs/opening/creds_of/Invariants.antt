use Rattle.std.proofs.Common.{◌≡◌, map, take}
use Rattle.ipc_abi.specs.Openings.{creds_in}
use Rattle.ipc_abi.proofs.opening.creds_of.Given as goal

abbrev pub invariant-loop-client : goal.invariant-loop-client
invariant-loop-client l = l.all.items ≡ map creds_in (take l.client-index l.clients)
