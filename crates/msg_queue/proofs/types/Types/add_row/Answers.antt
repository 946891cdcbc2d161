use Rattle.std.proofs.Common.{ap, sym, subst, ◌∙◌, List, ◌+◌, arith, insert, drop}
use Rattle.msg_queue.specs.declared.types.Row.{Row}
use Rattle.msg_queue.specs.Types.{AreRising, TypesState}
use Rattle.msg_queue.proofs.Rows.{drop_insert, longer_insert}
use Rattle.msg_queue.proofs.types.Types.add_row.Goals as goal

pub invariant_of-self-else-at-eq0 : goal.invariant_of-self-else-at-eq0
invariant_of-self-else-at-eq0 c =
    let rows = c.self.inside.rows.items in
    let start = c.self.inside.start in
    let e = c.insert.ensures.items in
    let items = rw c.unwrap.ensures at e in
    let longer = longer_insert rows (start + c.args.at) c.args.row in
    let is = drop_insert start rows c.args.at c.args.row c.self.invariant.0 ∙ ap (λ (q : TypesState). insert q.rows c.args.at c.args.row) c.self.view_is in
    rw items (omega (arith, longer, c.self.invariant.0), subst (λ (xs : List Row). AreRising xs) (sym is) c.requires.rising)

pub returns-else-at-eq0-clause-rows : goal.returns-else-at-eq0-clause-rows
returns-else-at-eq0-clause-rows c =
    let e = c.insert.ensures.items in
    let items = rw c.unwrap.ensures at e in
    ap (drop c.self.inside.start) items
    ∙ drop_insert c.self.inside.start c.self.inside.rows.items c.args.at c.args.row c.self.invariant.0
    ∙ ap (λ (q : TypesState). insert q.rows c.args.at c.args.row) c.self.view_is
