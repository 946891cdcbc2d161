use Rattle.std.proofs.Common.{◌≡◌, ◌++◌, [], map, sym, ap, ◌∙◌, append-nil, arith}
use Rattle.ipc_combiner.proofs.Handing.{none_left}
use Rattle.ipc_combiner.proofs.Opened.{map_on}
use Rattle.ipc_combiner.proofs.opening.unjoined_of.Goals as goal

pub loop-each-preserved : goal.loop-each-preserved
loop-each-preserved c = ap (λ xs. map (λ u. u.fresh) xs ++ c.next.new.self.rest.items) c.in_ok-push.ensures.items ∙ map_on (λ u. u.fresh) c.loop-each.unjoined.items (record { fresh = c.in-Some.each }) c.next.new.self.rest.items
    ∙ ap (λ xs. map (λ u. u.fresh) c.loop-each.unjoined.items ++ xs) (sym c.in-Some.ensures.steps.0) ∙ c.loop-each.invariant

pub returns : goal.returns
returns c = let none : c.loop-each.each-iterator.rest.items ≡ [] = none_left _ (let size = c.loop-each.each-iterator.rest.ok.0 in let gone = c.in-None.ensures.steps.0 in omega arith) in
    sym (append-nil (map (λ u. u.fresh) c.loop-each.unjoined.items)) ∙ ap (λ xs. map (λ u. u.fresh) c.loop-each.unjoined.items ++ xs) (sym none) ∙ c.loop-each.invariant
