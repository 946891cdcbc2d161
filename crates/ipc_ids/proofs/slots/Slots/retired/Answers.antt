use Rattle.std.proofs.Common.{sym, ap, ◌∙◌, arith}
use Rattle.ipc_ids.specs.Table.{Table, is_retired}
use Rattle.ipc_ids.proofs.Places.{place_read, place_past}
use Rattle.ipc_ids.proofs.Tables.{retired_at, is_retired-table}
use Rattle.ipc_ids.proofs.slots.Slots.retired.Goals as goal

pub returns-in-Some : goal.returns-in-Some
returns-in-Some g c =
    let here = place_read c.deref.result.now c.self.inside.entries.items c.from.result c.args.slot c.deref.ensures.value c.from.ensures c.in-Some.entry.now (omega (arith, c.in-Some.ensures)) c.in-Some.ensures.lookup.1 in
    c.is_retired.ensures
    ∙ sym (is_retired-table c.self.invariant c.args.slot ∙ ap (λ o. retired_at o) here)
    ∙ ap (λ (t : Table g.row.T.Denot). is_retired t c.args.slot) c.self.view_is

pub returns-in-None : goal.returns-in-None
returns-in-None g c =
    let here = place_past c.deref.result.now c.self.inside.entries.items c.from.result c.args.slot c.deref.ensures.value c.from.ensures (omega (arith, c.in-None.ensures)) in
    sym (is_retired-table c.self.invariant c.args.slot ∙ ap (λ o. retired_at o) here)
    ∙ ap (λ (t : Table g.row.T.Denot). is_retired t c.args.slot) c.self.view_is
