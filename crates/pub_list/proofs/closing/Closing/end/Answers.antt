use Rattle.std.proofs.Common.{◌≡◌, subst}
use mathlib.Core.Option.{some}
use lib.ListN.{get_elem?}
use Rattle.pub_list.proofs.Ended.{at_end}
use Rattle.pub_list.proofs.closing.Closing.end.Goals as goal

pub state_in-requires : goal.state_in-requires
state_in-requires g c = let closing = c.args.self in let i = c.loop-client.invariant in let e = at_end g.S.Served closing.table.shared.key.0 closing.clients closing.closer.id closing.closer.me.0 _ _ c.take-state.result c.close_with-closed.ensures.values.2 closing.own.2 closing.own.0.2 c.requires
    (subst (λ xs. get_elem? xs closing.clients ≡ some c.take-state.result) i.2 c.take-state.ensures.value) in (e.state, e.is)

pub returns-clause-legal : goal.returns-clause-legal
returns-clause-legal g c = let closing = c.args.self in let i = c.loop-client.invariant in let e = at_end g.S.Served closing.table.shared.key.0 closing.clients closing.closer.id closing.closer.me.0 _ _ c.take-state.result c.close_with-closed.ensures.values.2 closing.own.2 closing.own.0.2 c.requires
    (subst (λ xs. get_elem? xs closing.clients ≡ some c.take-state.result) i.2 c.take-state.ensures.value) in (e.true_of c.state_in.result c.state_in.ensures).0

pub returns-clause-told : goal.returns-clause-told
returns-clause-told g c = let closing = c.args.self in let i = c.loop-client.invariant in let e = at_end g.S.Served closing.table.shared.key.0 closing.clients closing.closer.id closing.closer.me.0 _ _ c.take-state.result c.close_with-closed.ensures.values.2 closing.own.2 closing.own.0.2 c.requires
    (subst (λ xs. get_elem? xs closing.clients ≡ some c.take-state.result) i.2 c.take-state.ensures.value) in (e.true_of c.state_in.result c.state_in.ensures).1
