use Rattle.std.proofs.Common.{◌≡◌, ◌+◌, ◌≤◌, ◌++◌, drop, map, take, vec_len}
use Rattle.ipc_server.specs.Lives.{closed_from, without}
use Rattle.ipc_server.specs.Servers.{is_of, is_process}
use Rattle.ipc_server.proofs.ending.close_each.Given as goal

-- those before the place are closed; those behind it are as they were
abbrev pub invariant-loop-at : goal.invariant-loop-at
invariant-loop-at l = record {
  count : vec_len l.conns ≡ vec_len l.initial.conns;
  closed : l.conns.items ≡ map (without (is_of (is_process l.fn.pid))) (take l.at l.initial.conns.items) ++ drop l.at l.initial.conns.items;
  told : l.outputs.list ++ closed_from l.fn.pid l.at (drop l.at l.initial.conns.items) ≡ l.initial.outputs.list ++ closed_from l.fn.pid 0 l.initial.conns.items;
  room : vec_len l.initial.conns ≤ l.outputs.room + l.at;
  cost : l.initial.outputs.room ≤ l.outputs.room + l.at;
}
