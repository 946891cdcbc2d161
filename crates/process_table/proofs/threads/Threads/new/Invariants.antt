use Rattle.std.proofs.Common.{◌≡◌, ◌++◌, drop, length}
use Rattle.ipc_model.specs.State.{first_threads}
use Rattle.process_table.specs.Index.{IsIndexed}
use Rattle.process_table.proofs.threads.Threads.new.Given as goal

-- with those to come they are all, and the index is that of those so far
abbrev pub invariant-loop-client : goal.invariant-loop-client
invariant-loop-client l = record {
  rest : l.items.items ++ first_threads l.client (drop l.client l.clients) ≡ first_threads 0 l.clients;
  index : IsIndexed l.items.items l.rows;
  long : length l.items.items ≡ l.client;
  capacity : l.rows.capacity ≡ length l.clients;
}
