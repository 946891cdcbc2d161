use Rattle.std.proofs.Common.{◌/◌, ◌%◌, List, set, refl, sym, ap, ◌∙◌, subst, arith}
use Rattle.std.specs.Prelude.{is_some}
use Rattle.std.specs.BinaryHeap.{heap_items, heap_len, heap_capacity}
use Rattle.ipc_ids.specs.Table.{Table, with_object}
use Rattle.ipc_ids.specs.Slots.{held_in, with_held, table_of, IsLayout}
use Rattle.ipc_ids.specs.declared.slots.Slot.{Slot}
use Rattle.ipc_ids.proofs.Identifiers.{whole_id}
use Rattle.ipc_ids.proofs.Changes.{held_object, held_place, held_entry, layout-written, table-written}
use Rattle.ipc_ids.proofs.slots.Slots.object_mut.Goals as goal

pub index_mut-requires : goal.index_mut-requires
index_mut-requires g c =
    let held = held_object c.self.invariant c.args.self.now c.args.id c.self.view_is c.requires in
    let below = held_place held.1 c.from.result (c.from.ensures ∙ c.slot_of.ensures) in
    omega (arith, below, c.self.inside.entries.ok.0)

pub object_mut-requires : goal.object_mut-requires
object_mut-requires g c =
    let held = held_object c.self.invariant c.args.self.now c.args.id c.self.view_is c.requires in
    ap (λ (e : Slot g.row.T.Denot). is_some (held_in e)) (held_entry held.1 c.from.result (c.from.ensures ∙ c.slot_of.ensures) c.index_mut.result.now c.index_mut.ensures.value)

pub invariant_of-self-lent : goal.invariant_of-self-lent
invariant_of-self-lent g c w =
    let t = c.self.inside in
    let held = held_object c.self.invariant c.args.self.now c.args.id c.self.view_is c.requires in
    let place = c.from.ensures ∙ c.slot_of.ensures in
    let entry = held_entry held.1 c.from.result place c.index_mut.result.now c.index_mut.ensures.value in
    subst (λ (es : List (Slot g.row.T.Denot)). IsLayout t.slots t.first_seq es (heap_items t.free) (heap_len t.free) (heap_capacity t.free))
    (sym (λ j. set t.entries.items (place j) (with_held (entry j) w)))
    (layout-written c.self.invariant (c.args.id % 32768) (c.args.id / 32768) held.0 held.1.here w)

pub returns : goal.returns
returns g c =
    let t = c.self.inside in
    let id = c.args.id in
    let held = held_object c.self.invariant c.args.self.now id c.self.view_is c.requires in
    let place = c.from.ensures ∙ c.slot_of.ensures in
    let entry = held_entry held.1 c.from.result place c.index_mut.result.now c.index_mut.ensures.value in (
      (
        refl,
        λ w. (λ j. table_of t.slots t.first_seq (set t.entries.items (place j) (with_held (entry j) w)))
            ∙ table-written c.self.invariant (id % 32768) (id / 32768) held.0 held.1.here w
            ∙ ap (λ n. with_object (table_of t.slots t.first_seq t.entries.items) n w) (sym (whole_id id))
            ∙ ap (λ (t : Table g.row.T.Denot). with_object t id w) c.self.view_is,
      ),
      record { writes_back = tt; value = held.1.got ∙ ap (λ (e : Slot g.row.T.Denot). held_in e) (sym entry) ∙ c.object_mut.ensures.value },
    )
