use Rattle.std.proofs.Common.{rules, ap, tests, ◌∙◌}
use Rattle.std.specs.Prelude.{List, ℕ, filter_map}
use Rattle.std.proofs.lemmas.Result.{IfOk-weaker}
use Rattle.std.proofs.lemmas.Iterator.{YieldsList-from_slice, items_from_collect}
use Rattle.std.proofs.lemmas.Iterator.Consumers.{YieldsList-from_filter_map}
use Rattle.ipc_model.specs.Listings.{row_at, rows_to}
use Rattle.ipc_namespace.proofs.namespace.Namespace.rows_to.Goals as goal

-- the objects are gone through in their order
pub returns : goal.returns
unfolding rows_to
returns c =
    let row = λ (id : ℕ). row_at c.args.self.now c.args.creds.now c.args.kind id in
    let ids = c.deref.ensures.value ∙ c.in_ok-ids.ensures in
    IfOk-weaker c.collect.result _ _ (λ rows told. told ∙ ap (λ (l : List ℕ). filter_map row l) ids)
    (items_from_collect c.collect.result c.collect.ensures.ran (YieldsList-from_filter_map _ row (YieldsList-from_slice c.deref.result.now cc) c.filter_map.ensures.closure (λ x r q k. search (rules, tests))))
