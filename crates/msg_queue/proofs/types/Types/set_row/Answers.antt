use Rattle.std.proofs.Common.{ap, sym, subst, ◌∙◌, ◌+◌, List, arith, slice_set}
use Rattle.std.proofs.lemmas.List.{drop-set-add, length-set}
use Rattle.msg_queue.specs.declared.types.Row.{Row}
use Rattle.msg_queue.specs.Types.{AreRising, TypesState}
use Rattle.msg_queue.proofs.types.Types.set_row.Goals as goal

pub invariant_of-self : goal.invariant_of-self
invariant_of-self c =
    let rows = c.self.inside.rows.items in
    let start = c.self.inside.start in
    let same = length-set rows (start + c.args.at) c.args.row in
    let is = drop-set-add start rows c.args.at c.args.row ∙ ap (λ (q : TypesState). slice_set q.rows c.args.at c.args.row) c.self.view_is in
    (omega (arith, same, c.self.invariant.0), subst (λ (xs : List Row). AreRising xs) (sym is) c.requires.rising)

pub returns-clause-rows : goal.returns-clause-rows
returns-clause-rows c =
    drop-set-add c.self.inside.start c.self.inside.rows.items c.args.at c.args.row ∙ ap (λ (q : TypesState). slice_set q.rows c.args.at c.args.row) c.self.view_is
