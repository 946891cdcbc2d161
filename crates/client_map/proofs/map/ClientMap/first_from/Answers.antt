use Rattle.std.proofs.Common.{◌∙◌, sym}
use Rattle.client_map.proofs.Walks.{head_from, head_there, none_before, none_of, walk_from}
use Rattle.client_map.proofs.map.ClientMap.first_from.Goals as goal

pub returns-in-None-clause-none : goal.returns-in-None-clause-none
returns-in-None-clause-none g c n l =
    (walk_from c.args.client c.self.inside.tree.entries _ c.args.self.now c.self.view_is c.range.ensures.ordered c.args.number (sym c.in-None.ensures.steps.0 ∙ c.range.ensures.between tt)).rest n l

pub returns-then-key-client-clause-there : goal.returns-then-key-client-clause-there
returns-then-key-client-clause-there g c =
    let walk = walk_from c.args.client c.self.inside.tree.entries _ c.args.self.now c.self.view_is c.range.ensures.ordered c.args.number (sym c.in-Some.ensures.steps ∙ c.range.ensures.between tt) in
    head_there c.args.self.now c.args.client _ _ _ walk c.if-key-client.true (head_from c.args.self.now c.args.client _ _ _ walk c.if-key-client.true)

pub returns-then-key-client-clause-from : goal.returns-then-key-client-clause-from
returns-then-key-client-clause-from g c =
    let walk = walk_from c.args.client c.self.inside.tree.entries _ c.args.self.now c.self.view_is c.range.ensures.ordered c.args.number (sym c.in-Some.ensures.steps ∙ c.range.ensures.between tt) in
    head_from c.args.self.now c.args.client _ _ _ walk c.if-key-client.true

pub returns-then-key-client-clause-least : goal.returns-then-key-client-clause-least
returns-then-key-client-clause-least g c n from less =
    none_before c.args.self.now c.args.client _ _ _ (walk_from c.args.client c.self.inside.tree.entries _ c.args.self.now c.self.view_is c.range.ensures.ordered c.args.number (sym c.in-Some.ensures.steps ∙ c.range.ensures.between tt)) c.if-key-client.true n from less

pub returns-else-key-client-clause-none : goal.returns-else-key-client-clause-none
returns-else-key-client-clause-none g c n from =
    none_of c.args.self.now c.args.client _ _ _ (walk_from c.args.client c.self.inside.tree.entries _ c.args.self.now c.self.view_is c.range.ensures.ordered c.args.number (sym c.in-Some.ensures.steps ∙ c.range.ensures.between tt)) c.if-key-client.false n from
