use Rattle.std.proofs.Common.{◌≡◌, ℕ, length, get_or, Some, refl, sym, ap, ◌∙◌, arith}
use Rattle.std.proofs.lemmas.Option.{slice_get_within, get_or_from_slice_get}
use Rattle.ipc_ids.specs.Table.{Table, id_of, next_id}
use Rattle.ipc_ids.specs.Slots.{is_vacant, seq_in}
use Rattle.ipc_ids.specs.declared.slots.Slot.{Slot}
use Rattle.ipc_ids.specs.declared.slots.Slot.TheVariants.{Vacant}
use Rattle.ipc_ids.proofs.Free.{top_slot, none_below_top, none_of_empty}
use Rattle.ipc_ids.proofs.Tables.{next_id-freed, next_id-fresh, next_id-full}
use Rattle.ipc_ids.proofs.slots.Slots.next_id.Goals as goal

pub index-requires : goal.index-requires
index-requires g c =
    let t = c.self.inside in
    let r = c.in-Some.field-0.now in
    let top = top_slot c.self.invariant r (omega (arith, c.in-Some.ensures.variant.0 refl, t.free.data.ok.0)) c.in-Some.ensures.lookup in
    omega (arith, c.from.ensures, slice_get_within t.entries.items r.0 (Vacant top.0) top.1, t.entries.ok.0)

pub next_seq-seq-requires : goal.next_seq-seq-requires
next_seq-seq-requires g c =
    let t = c.self.inside in
    let r = c.in-Some.field-0.now in
    let top = top_slot c.self.invariant r (omega (arith, c.in-Some.ensures.variant.0 refl, t.free.data.ok.0)) c.in-Some.ensures.lookup in
    ap (λ (e : Slot g.row.T.Denot). is_vacant e)
    (c.index.ensures ∙ ap (λ n. get_or t.entries.items n c.index.result.now) c.from.ensures ∙ get_or_from_slice_get t.entries.items r.0 (Vacant top.0) c.index.result.now top.1)

pub id_of-requires : goal.id_of-requires
id_of-requires g c =
    let t = c.self.inside in
    let r = c.in-Some.field-0.now in
    let top = top_slot c.self.invariant r (omega (arith, c.in-Some.ensures.variant.0 refl, t.free.data.ok.0)) c.in-Some.ensures.lookup in
    omega (arith, slice_get_within t.entries.items r.0 (Vacant top.0) top.1, c.self.invariant.within, c.self.invariant.few)

pub returns-in-Some : goal.returns-in-Some
returns-in-Some g c =
    let t = c.self.inside in
    let r = c.in-Some.field-0.now in
    let top = top_slot c.self.invariant r (omega (arith, c.in-Some.ensures.variant.0 refl, t.free.data.ok.0)) c.in-Some.ensures.lookup in
    let seq : c.next_seq-seq.result ≡ top.0 =
    ap (λ (e : Slot g.row.T.Denot). seq_in e)
    (sym c.next_seq-seq.ensures ∙ c.index.ensures ∙ ap (λ n. get_or t.entries.items n c.index.result.now) c.from.ensures ∙ get_or_from_slice_get t.entries.items r.0 (Vacant top.0) c.index.result.now top.1) in
    ap (λ (n : ℕ). Some n) (c.id_of.ensures ∙ ap (λ n. id_of n r.0) seq)
    ∙ sym (next_id-freed c.self.invariant r.0 top.0 top.1 (none_below_top c.self.invariant r (c.in-Some.ensures.greatest c.self.invariant.ordered)))
    ∙ ap (λ (t : Table g.row.T.Denot). next_id t) c.self.view_is

pub returns-then-fresh-self : goal.returns-then-fresh-self
returns-then-fresh-self g c =
    let t = c.self.inside in
    let empty : t.free.data.len ≡ 0 = omega (arith, c.in_default.ensures.item, t.free.data.ok.0) in
    let fresh : c.len-fresh.result ≡ length t.entries.items = omega (arith, c.len-fresh.ensures, t.entries.ok.0) in
    ap (λ (n : ℕ). Some n) (c.id_of-then-fresh-self.ensures ∙ ap (λ n. id_of t.first_seq n) fresh)
    ∙ sym (next_id-fresh c.self.invariant (omega (arith, fresh, c.if-fresh-self.true)) (none_of_empty c.self.invariant empty))
    ∙ ap (λ (t : Table g.row.T.Denot). next_id t) c.self.view_is

pub returns-else-fresh-self : goal.returns-else-fresh-self
returns-else-fresh-self g c =
    let t = c.self.inside in
    let empty : t.free.data.len ≡ 0 = omega (arith, c.in_default.ensures.item, t.free.data.ok.0) in
    sym (next_id-full c.self.invariant (omega (arith, c.len-fresh.ensures, t.entries.ok.0, c.if-fresh-self.false)) (none_of_empty c.self.invariant empty))
    ∙ ap (λ (t : Table g.row.T.Denot). next_id t) c.self.view_is
