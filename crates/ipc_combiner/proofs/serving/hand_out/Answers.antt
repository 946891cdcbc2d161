use Rattle.std.proofs.Common.{◌≡◌, [], ◌∙◌, subst, arith}
use Rattle.pub_list.specs.Clients.{view}
use Rattle.ipc_combiner.specs.Serving.{IsHanding}
use Rattle.ipc_combiner.proofs.Handing.{none_left, owes, below, handed, all_handed, far_paying, kept_paying}
use Rattle.ipc_combiner.proofs.serving.hand_out.Goals as goal

pub hand-state-requires-clause-other : goal.hand-state-requires-clause-other
hand-state-requires-clause-other c = let i = c.loop-told.invariant in let n = c.args.list.now.clients in let v = view c.loop-told.combiner in
    below n v c.loop-told.state c.in-Some.told.0 c.in-Some.told.1 c.next.new.self.rest.items (subst (IsHanding n v c.loop-told.state) c.in-Some.ensures.steps.0 i.1)

pub hand-state-requires-clause-owes : goal.hand-state-requires-clause-owes
hand-state-requires-clause-owes c = let i = c.loop-told.invariant in let n = c.args.list.now.clients in let v = view c.loop-told.combiner in
    owes n v c.loop-told.state c.in-Some.told.0 c.in-Some.told.1 c.next.new.self.rest.items (subst (IsHanding n v c.loop-told.state) c.in-Some.ensures.steps.0 i.1)

pub loop-told-preserved : goal.loop-told-preserved
loop-told-preserved c = let i = c.loop-told.invariant in let n = c.args.list.now.clients in let v = view c.loop-told.combiner in let w = view c.hand-state.new.combiner in (
  (c.hand-state.ensures.client.0 ∙ i.0.0, c.hand-state.ensures.client.1 ∙ i.0.1),
  handed n v c.loop-told.state c.in-Some.told.0 c.in-Some.told.1 c.next.new.self.rest.items (subst (IsHanding n v c.loop-told.state) c.in-Some.ensures.steps.0 i.1) w c.hand-state.result c.hand-state.ensures.paid c.hand-state.ensures.state,
  far_paying c.in-Some.told.0 (view c.args.combiner.now) v w c.hand-state.ensures.paid i.2,
  kept_paying c.in-Some.told.0 (view c.args.combiner.now) v w c.hand-state.ensures.paid i.3,
)

pub returns-clause-serving : goal.returns-clause-serving
returns-clause-serving c = let i = c.loop-told.invariant in let n = c.args.list.now.clients in let v = view c.loop-told.combiner in
    let none : c.loop-told.told-iterator.rest.items ≡ [] = none_left _ (let size = c.loop-told.told-iterator.rest.ok.0 in let gone = c.in-None.ensures.steps.0 in omega arith) in
    all_handed n v c.loop-told.state (subst (IsHanding n v c.loop-told.state) none i.1)
