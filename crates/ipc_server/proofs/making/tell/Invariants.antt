use Rattle.std.proofs.Common.{◌≡◌, ◌+◌, ◌≤◌, ◌++◌, length}
use Rattle.std.specs.Vec.Iter.{drain_items}
use Rattle.ipc_server.specs.Making.{replies_told}
use Rattle.ipc_server.proofs.making.tell.Given as goal

-- what was told and what is still to be told is what is to be told
abbrev pub invariant-loop-client : goal.invariant-loop-client
invariant-loop-client l = record {
  steps : goal.iterator-loop-client.can_next l.client-iterator;
  finite : goal.iterator-loop-client.is_finite l.client-iterator;
  told : l.outputs.list ++ replies_told l.fn.conns l.fn.roles (drain_items l.client-iterator) ≡ l.initial.outputs.list ++ replies_told l.fn.conns l.fn.roles (drain_items l.initial.client-iterator);
  room : length (drain_items l.client-iterator) ≤ l.outputs.room;
  cost : l.initial.outputs.room + length (drain_items l.client-iterator) ≤ l.outputs.room + length (drain_items l.initial.client-iterator);
}
