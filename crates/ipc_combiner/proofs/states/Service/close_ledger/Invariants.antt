use Rattle.std.proofs.Common.{◌≡◌, [], All}
use Rattle.pub_list.specs.Closing.{told_at_close}
use Rattle.ipc_combiner.specs.Closing.{IsClientOf}
use Rattle.ipc_combiner.proofs.Closed.{words_onto}
use Rattle.ipc_combiner.proofs.states.Service.close_ledger.Given as goal

abbrev pub invariant-loop-client : goal.invariant-loop-client
invariant-loop-client l = (l.closing.clients ≡ l.fn.self.list.clients) × (l.closing.table.shared.table_id ≡ l.fn.self.list.table.shared.table_id) × All (λ c. IsClientOf l.fn.self.list c) l.client-iterator.rest.items
    × (words_onto l.client-iterator.rest.items (told_at_close l.closing.closer) ≡ words_onto l.fn.clients.items [])
