use Rattle.std.proofs.Common.{◌<◌, ◌∙◌, ℕ, ap, eqb, subst, sym, List, length}
use Rattle.std.specs.Prelude.{◌||◌}
use Rattle.ipc_model.specs.State.{Thread}
use Rattle.ipc_model.specs.Tidy.{thread_in}
use Rattle.process_table.specs.Rows.{holds}
use Rattle.process_table.proofs.Indexing.{indexed-put, not-there, room-for}
use Rattle.process_table.proofs.threads.Threads.put.Goals as goal

pub add-requires-clause-room : goal.add-requires-clause-room
add-requires-clause-room c =
    room-for c.self.inside.items.items c.self.inside.rows c.self.inside.rows c.args.client c.args.thread c.self.invariant
    (subst (λ (ts : List Thread). c.args.client < length ts) (sym c.self.view_is) c.requires.known)
    (ap (λ (ts : List Thread). (thread_in ts c.args.client).has_ended) c.self.view_is ∙ c.requires.ended)

pub add-requires-clause-new : goal.add-requires-clause-new
add-requires-clause-new c =
    ap (λ (row : ℕ). holds row c.self.inside.rows.rows) c.row_of.ensures
    ∙ not-there c.self.inside.items.items c.self.inside.rows c.self.inside.rows c.args.client c.args.thread c.self.invariant
    (subst (λ (ts : List Thread). c.args.client < length ts) (sym c.self.view_is) c.requires.known)
    (ap (λ (ts : List Thread). (thread_in ts c.args.client).has_ended) c.self.view_is ∙ c.requires.ended)
    c.args.thread.pid

pub invariant_of-self : goal.invariant_of-self
invariant_of-self c =
    indexed-put c.self.inside.items.items c.self.inside.rows c.add.new.self c.args.client c.args.thread c.self.invariant
    (subst (λ (ts : List Thread). c.args.client < length ts) (sym c.self.view_is) c.requires.known)
    (ap (λ (ts : List Thread). (thread_in ts c.args.client).has_ended) c.self.view_is ∙ c.requires.ended)
    c.requires.live
    (λ other. c.add.ensures.held other ∙ ap (λ (row : ℕ). eqb row other || holds other c.self.inside.rows.rows) c.row_of.ensures)
    c.add.ensures.length c.add.ensures.capacity
