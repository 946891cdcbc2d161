use Rattle.std.proofs.Common.{◌≡◌, ℕ, Some, None, sym, ap, ◌∙◌, arith}
use Rattle.std.specs.Prelude.{option_map}
use Rattle.ipc_ids.specs.Table.{Table, id_of, id_in}
use Rattle.ipc_ids.specs.Slots.{held_seq}
use Rattle.ipc_ids.proofs.Places.{place_read, place_past}
use Rattle.ipc_ids.proofs.Tables.{held_seq_at, id_in-table}
use Rattle.ipc_ids.proofs.slots.Slots.id_at.Goals as goal

pub returns-in_err-get : goal.returns-in_err-get
returns-in_err-get g c =
    let here = place_past c.deref.result.now c.self.inside.entries.items c.from.result c.args.slot c.deref.ensures.value c.from.ensures (omega (arith, c.in_err-get.ensures)) in
    c.from_residual.ensures
    ∙ sym (id_in-table c.self.invariant c.args.slot ∙ ap (λ o. option_map (λ seq. id_of seq c.args.slot) (held_seq_at o)) here)
    ∙ ap (λ (t : Table g.row.T.Denot). id_in t c.args.slot) c.self.view_is

pub returns-in_err-seq : goal.returns-in_err-seq
returns-in_err-seq g c =
    let here = place_read c.deref.result.now c.self.inside.entries.items c.from.result c.args.slot c.deref.ensures.value c.from.ensures c.in_ok-get.field-0.now (omega (arith, c.in_ok-get.ensures)) c.in_ok-get.ensures.lookup.1 in
    let none : held_seq c.in_ok-get.field-0.now ≡ None = sym c.held_seq.ensures ∙ c.in_err-seq.was in
    c.from_residual-in_err-seq.ensures
    ∙ sym (id_in-table c.self.invariant c.args.slot ∙ ap (λ o. option_map (λ seq. id_of seq c.args.slot) (held_seq_at o)) here ∙ ap (λ o. option_map (λ seq. id_of seq c.args.slot) o) none)
    ∙ ap (λ (t : Table g.row.T.Denot). id_in t c.args.slot) c.self.view_is

pub returns : goal.returns
returns g c =
    let here = place_read c.deref.result.now c.self.inside.entries.items c.from.result c.args.slot c.deref.ensures.value c.from.ensures c.in_ok-get.field-0.now (omega (arith, c.in_ok-get.ensures)) c.in_ok-get.ensures.lookup.1 in
    let some : held_seq c.in_ok-get.field-0.now ≡ Some c.in_ok-seq.seq = sym c.held_seq.ensures ∙ c.in_ok-seq.was in
    ap (λ (n : ℕ). Some n) c.id_of.ensures
    ∙ sym (id_in-table c.self.invariant c.args.slot ∙ ap (λ o. option_map (λ seq. id_of seq c.args.slot) (held_seq_at o)) here ∙ ap (λ o. option_map (λ seq. id_of seq c.args.slot) o) some)
    ∙ ap (λ (t : Table g.row.T.Denot). id_in t c.args.slot) c.self.view_is
