use Rattle.std.proofs.Common.{◌≡◌, replicate}
use Rattle.ipc_server.specs.declared.peers.Conn.TheVariants.{Absent}
use Rattle.ipc_server.proofs.opening.absent.Given as goal

abbrev pub invariant-loop : goal.invariant-loop
invariant-loop l = l.conns.items ≡ replicate l.counter Absent
