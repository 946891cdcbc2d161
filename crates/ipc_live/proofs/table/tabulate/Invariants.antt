-- the entries of the objects so far
use Rattle.std.proofs.Common.{◌≡◌, take}
use Rattle.ipc_live.specs.Told.{table_of}
use Rattle.ipc_live.proofs.table.tabulate.Given as goal

abbrev pub invariant-loop-object : goal.invariant-loop-object
invariant-loop-object l = l.entries.items ≡ table_of (take l.object-index l.objects) l.processes
