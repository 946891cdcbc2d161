use Rattle.std.proofs.Common.{◌≡◌, replicate}
use Rattle.ipc_server.specs.declared.peers.Role.TheVariants.{Free}
use Rattle.ipc_server.proofs.opening.free.Given as goal

abbrev pub invariant-loop : goal.invariant-loop
invariant-loop l = l.roles.items ≡ replicate l.counter Free
