use Rattle.std.proofs.Common.{List, ap, sym, subst, ◌∙◌, arith}
use Rattle.std.specs.List.{filter}
use Rattle.msg_queue.specs.declared.types.Row.{Row}
use Rattle.msg_queue.specs.Types.{AreRising, TypesState, ends_in, is_used}
use Rattle.msg_queue.proofs.Rows.{used_ends, used_rising}
use Rattle.msg_queue.proofs.types.Types.let_go.Goals as goal

pub invariant_of-self : goal.invariant_of-self
invariant_of-self c =
    let is = c.keep_used.ensures.items ∙ ap (filter is_used) c.drop_first.ensures.items in
    (omega arith, subst (λ (xs : List Row). AreRising xs) (sym is) (used_rising _ c.self.invariant.1))

pub returns-clause-ends : goal.returns-clause-ends
returns-clause-ends c = λ t.
    let is = c.keep_used.ensures.items ∙ ap (filter is_used) c.drop_first.ensures.items in
    ap (λ (xs : List Row). ends_in xs t) is ∙ used_ends _ t c.self.invariant.1 ∙ ap (λ (q : TypesState). ends_in q.rows t) c.self.view_is
