use Rattle.std.proofs.Common.{◌≡◌, ◌-◌}
use Rattle.std.specs.List.{range_with_len}
use Rattle.ipc_server.specs.Looks.{slots_of, totals, totals_in}
use Rattle.ipc_server.specs.Servers.{state}
use Rattle.ipc_server.proofs.server.Server.totals.Given as goal

-- those before are counted
abbrev pub invariant-loop-slot : goal.invariant-loop-slot
invariant-loop-slot l = totals_in (state l.fn.self.server) l.fn.kind (range_with_len l.slot (slots_of l.fn.self.server.history.limits l.fn.kind - l.slot)) l.totals ≡ totals l.fn.self.server l.fn.kind
