use Rattle.std.proofs.Common.{◌≡◌, ◌/◌, ◌%◌, ◌≤◌, length, Some, refl, sym, ap, ◌∙◌, arith}
use Rattle.std.specs.Prelude.{slice_get, option_copied}
use Rattle.std.specs.FinMap as map
use Rattle.std.proofs.lemmas.Option.{slice_get_past, slice_get_read}
use Rattle.ipc_ids.specs.Table.{Table}
use Rattle.ipc_ids.proofs.Entries.{found, get-objects_by_id}
use Rattle.ipc_ids.proofs.slots.Slots.get.Goals as goal

pub returns-in_err-get : goal.returns-in_err-get
returns-in_err-get g c =
    let t = c.self.inside in
    let place : c.from.result ≡ c.args.id % 32768 = c.from.ensures ∙ c.slot_of.ensures in
    let past : length t.entries.items ≤ c.args.id % 32768 = omega (arith, c.in_err-get.ensures, ap length c.deref.ensures.value) in
    ap (λ o. option_copied o) c.from_residual.ensures
    ∙ sym (get-objects_by_id t.entries.items c.args.id (omega (arith, c.self.invariant.few, c.self.invariant.within)) ∙ ap (λ o. found (c.args.id / 32768) o) (slice_get_past t.entries.items (c.args.id % 32768) past))
    ∙ ap (λ (t : Table g.row.T.Denot). map.get t.objects c.args.id) c.self.view_is

pub returns : goal.returns
returns g c =
    let t = c.self.inside in
    let place : c.from.result ≡ c.args.id % 32768 = c.from.ensures ∙ c.slot_of.ensures in
    let read = slice_get_read c.deref.result.now (length c.deref.result.now) c.from.result c.in_ok-get.field-0.now refl (omega (arith, c.in_ok-get.ensures)) c.in_ok-get.ensures.lookup.1 in
    let here : slice_get t.entries.items (c.args.id % 32768) ≡ Some c.in_ok-get.field-0.now = ap (λ n. slice_get t.entries.items n) (sym place) ∙ ap (λ xs. slice_get xs c.from.result) (sym c.deref.ensures.value) ∙ read in
    c.object.ensures
    ∙ sym (get-objects_by_id t.entries.items c.args.id (omega (arith, c.self.invariant.few, c.self.invariant.within)) ∙ ap (λ o. found (c.args.id / 32768) o) here)
    ∙ ap (λ (t : Table g.row.T.Denot). map.get t.objects c.args.id) c.self.view_is
