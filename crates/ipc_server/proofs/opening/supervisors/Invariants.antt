use Rattle.std.proofs.Common.{◌≡◌, replicate}
use Rattle.ipc_server.specs.Openings.{supervisor_creds}
use Rattle.ipc_server.proofs.opening.supervisors.Given as goal

abbrev pub invariant-loop : goal.invariant-loop
invariant-loop l = l.clients.items ≡ replicate l.counter supervisor_creds
