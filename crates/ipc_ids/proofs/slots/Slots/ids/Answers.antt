use Rattle.std.proofs.Common.{arith, length, rules, tests, sym, ap, ◌∙◌}
use Rattle.std.specs.Prelude.{filter_map}
use Rattle.std.specs.List.{range_with_len}
use Rattle.std.proofs.lemmas.Result.{IfOk-weaker}
use Rattle.std.proofs.lemmas.Iterator.{items_from_collect, YieldsList-from_range}
use Rattle.std.proofs.lemmas.Iterator.Consumers.{YieldsList-from_filter_map}
use Rattle.ipc_ids.specs.Table.{Table, id_in, ids_of}
use Rattle.ipc_ids.proofs.Listed.{ids_of-table}
use Rattle.ipc_ids.proofs.slots.Slots.ids.Goals as goal

-- the slots that were used are gone through
pub returns : goal.returns
returns g c =
    let es = c.self.inside.entries.items in
    let used = YieldsList-from_range 0 c.len-used.result (length es) c.filter_map.ensures.source (omega (arith, c.len-used.ensures)) in
    let whole = ap (λ (t : Table g.row.T.Denot). filter_map (λ slot. id_in t slot) (range_with_len 0 (length es))) (sym c.self.view_is)
    ∙ sym (ids_of-table c.self.invariant) ∙ ap (λ (t : Table g.row.T.Denot). ids_of t) c.self.view_is in
    IfOk-weaker c.collect.result _ _ (λ ids told. told ∙ whole)
    (items_from_collect c.collect.result c.collect.ensures.ran (YieldsList-from_filter_map _ (λ slot. id_in c.args.self.now slot) used c.filter_map.ensures.closure (λ x r q k. search (rules, tests))))
