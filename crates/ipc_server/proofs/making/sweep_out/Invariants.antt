use Rattle.std.proofs.Common.{◌≡◌, ◌+◌, ◌-◌, ◌≤◌, ◌++◌, drop, take, vec_capacity, vec_len}
use Rattle.std.specs.Prelude.{filter}
use Rattle.ipc_server.specs.Making.{drops, is_in}
use Rattle.ipc_server.proofs.making.sweep_out.Given as goal

-- those before the place are there; what is behind it is still to be looked at
abbrev pub invariant-loop-at : goal.invariant-loop-at
invariant-loop-at l = record {
  within : l.at ≤ vec_len l.memory;
  kept : take l.at l.memory.items ++ filter (is_in l.fn.namespace) (drop l.at l.memory.items) ≡ filter (is_in l.fn.namespace) l.initial.memory.items;
  told : l.outputs.list ++ drops l.fn.namespace (drop l.at l.memory.items) ≡ l.initial.outputs.list ++ drops l.fn.namespace l.initial.memory.items;
  room : vec_len l.memory ≤ l.outputs.room + l.at;
  cost : l.initial.outputs.room + vec_len l.memory ≤ l.outputs.room + vec_len l.initial.memory;
  few : vec_len l.memory ≤ vec_len l.initial.memory;
  capacity : vec_capacity l.initial.memory ≤ vec_capacity l.memory;
}

abbrev pub decreases-loop-at : goal.decreases-loop-at
decreases-loop-at l = vec_len l.memory - l.at
