use Rattle.std.proofs.Common.{◌≡◌, ◌&&◌, ◌∙◌, ℕ, ap, eqb, refl, List}
use Rattle.std.specs.Prelude.{not}
use Rattle.std.proofs.lemmas.List.{get_or_read}
use Rattle.ipc_model.specs.State.{Thread, no_thread}
use Rattle.ipc_model.specs.Tidy.{IsLive, thread_in}
use Rattle.process_table.specs.Rows.{holds, row_of}
use Rattle.process_table.proofs.Indexing.{indexed-gone, known-live}
use Rattle.process_table.proofs.threads.Threads.end.Goals as goal
use Rattle.process_table.proofs.threads.Threads.end.Goals.{After-row_of}

live : (c : After-row_of) → IsLive c.self.inside.items.items c.args.client
live c = ap (λ (ts : List Thread). (thread_in ts c.args.client).has_ended) c.self.view_is ∙ c.requires

-- the thread that is read is the client's
own : (c : After-row_of) → c.index-thread.result.now ≡ thread_in c.self.inside.items.items c.args.client
own c = get_or_read c.self.inside.items.items c.args.client c.index-thread.result.now (known-live c.self.inside.items.items c.args.client (live c)) c.index-thread.ensures no_thread

row : (c : After-row_of) → c.row_of.result ≡ row_of (thread_in c.self.inside.items.items c.args.client).pid c.args.client
row c = c.row_of.ensures ∙ ap (λ (t : Thread). row_of t.pid c.args.client) (own c)

pub invariant_of-self : goal.invariant_of-self
invariant_of-self c =
    let before = (goal.at.invariant_of-self c).After-row_of in
    indexed-gone c.self.inside.items.items c.self.inside.rows c.remove.new.self c.args.client _ c.self.invariant (live before) refl
    (λ other. c.remove.ensures.held other ∙ ap (λ (r : ℕ). holds other c.self.inside.rows.rows && not (eqb r other)) (row before))
    c.remove.ensures.length c.remove.ensures.capacity
