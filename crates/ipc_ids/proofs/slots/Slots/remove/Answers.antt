use Rattle.std.proofs.Common.{◌/◌, ◌%◌, List, set, refl, sym, ap, ◌∙◌, subst, arith}
use Rattle.std.specs.Prelude.{is_some, is_ok}
use Rattle.std.specs.BinaryHeap.{heap_items, heap_len, heap_capacity}
use Rattle.ipc_ids.specs.Table.{Table, without_object}
use Rattle.ipc_ids.specs.Slots.{seq_in, held_in, is_vacant, slot_after, table_of, IsLayout}
use Rattle.ipc_ids.specs.declared.slots.Slot.{Slot}
use Rattle.ipc_ids.proofs.Changes.{ok_then, found_object, held_place, held_entry, room_left, layout-retired, layout-vacated, table-vacated}
use Rattle.ipc_ids.proofs.slots.Slots.remove.Goals as goal

pub index_mut-entry-requires : goal.index_mut-entry-requires
index_mut-entry-requires g c =
    let held = found_object c.self.invariant c.args.self.now c.args.id c.self.view_is c.get.result c.if-is_none.ensures c.get.ensures in
    let below = held_place held.1 c.from.result (c.from.ensures ∙ c.slot_of-slot.ensures) in
    omega (arith, below, c.self.inside.entries.ok.0)

pub vacate-object-requires : goal.vacate-object-requires
vacate-object-requires g c =
    let held = found_object c.self.invariant c.args.self.now c.args.id c.self.view_is c.get.result c.if-is_none.ensures c.get.ensures in
    ap (λ (e : Slot g.row.T.Denot). is_some (held_in e)) (held_entry held.1 c.from.result (c.from.ensures ∙ c.slot_of-slot.ensures) c.index_mut-entry.result.now c.index_mut-entry.ensures.value)

pub invariant_of-self : goal.invariant_of-self
invariant_of-self g c =
    let t = c.self.inside in
    let held = found_object c.self.invariant c.args.self.now c.args.id c.self.view_is c.get.result c.if-is_none.ensures c.get.ensures in
    let place = c.from.ensures ∙ c.slot_of-slot.ensures in
    let entry = held_entry held.1 c.from.result place c.index_mut-entry.result.now c.index_mut-entry.ensures.value in
    let after = c.vacate-object.ensures.after ∙ ap (λ (e : Slot g.row.T.Denot). slot_after (seq_in e)) entry in
    subst (λ (es : List (Slot g.row.T.Denot)). IsLayout t.slots t.first_seq es (heap_items t.free) (heap_len t.free) (heap_capacity t.free))
    (sym (λ j. set t.entries.items (place j) (after j)))
    (layout-retired c.self.invariant (c.args.id % 32768) (c.args.id / 32768) held.0 held.1.here (ap (λ (e : Slot g.row.T.Denot). is_vacant e) (sym after) ∙ sym c.if-not-is_vacant.ensures))

pub returns-then-not-is_vacant-clause-value : goal.returns-then-not-is_vacant-clause-value
returns-then-not-is_vacant-clause-value g c =
    let held = found_object c.self.invariant c.args.self.now c.args.id c.self.view_is c.get.result c.if-is_none.ensures c.get.ensures in
    let entry = held_entry held.1 c.from.result (c.from.ensures ∙ c.slot_of-slot.ensures) c.index_mut-entry.result.now c.index_mut-entry.ensures.value in
    sym c.vacate-object.ensures.before ∙ ap (λ (e : Slot g.row.T.Denot). held_in e) entry ∙ sym held.1.got

pub returns-then-not-is_vacant-clause-removed : goal.returns-then-not-is_vacant-clause-removed
returns-then-not-is_vacant-clause-removed g c =
    let t = c.self.inside in
    let id = c.args.id in
    let held = found_object c.self.invariant c.args.self.now id c.self.view_is c.get.result c.if-is_none.ensures c.get.ensures in
    let place = c.from.ensures ∙ c.slot_of-slot.ensures in
    let entry = held_entry held.1 c.from.result place c.index_mut-entry.result.now c.index_mut-entry.ensures.value in
    let after = c.vacate-object.ensures.after ∙ ap (λ (e : Slot g.row.T.Denot). slot_after (seq_in e)) entry in
    (λ j. table_of t.slots t.first_seq (set t.entries.items (place j) (after j)))
    ∙ table-vacated c.self.invariant (id % 32768) (id / 32768) held.0 held.1.here id refl refl
    ∙ ap (λ (t : Table g.row.T.Denot). without_object t id) c.self.view_is

pub unwrap-requires : goal.unwrap-requires
unwrap-requires g c =
    let held = found_object c.self.invariant c.args.self.now c.args.id c.self.view_is c.get.result c.if-is_none.ensures c.get.ensures in
    c.push.ensures.succeeds (room_left c.self.invariant (c.args.id % 32768) (c.args.id / 32768) held.0 held.1.here)

pub invariant_of-self-2 : goal.invariant_of-self-2
invariant_of-self-2 g c =
    let t = c.self.inside in
    let held = found_object c.self.invariant c.args.self.now c.args.id c.self.view_is c.get.result c.if-is_none.ensures c.get.ensures in
    let place = c.from.ensures ∙ c.slot_of-slot.ensures in
    let entry = held_entry held.1 c.from.result place c.index_mut-entry.result.now c.index_mut-entry.ensures.value in
    let after = c.vacate-object.ensures.after ∙ ap (λ (e : Slot g.row.T.Denot). slot_after (seq_in e)) entry in
    let ok = ap (λ r. is_ok r) c.unwrap.ensures in
    subst (λ (es : List (Slot g.row.T.Denot)). IsLayout t.slots t.first_seq es (heap_items c.push.new.self) (heap_len c.push.new.self) (heap_capacity c.push.new.self))
    (sym (λ j. set t.entries.items (place j) (after j)))
    (layout-vacated c.self.invariant (c.args.id % 32768) (c.args.id / 32768) held.0 held.1.here _ c.slot_of-slot.ensures (ap (λ (e : Slot g.row.T.Denot). is_vacant e) (sym after) ∙ sym c.if-not-is_vacant.ensures)
    (ok_then c.push.result ok c.push.ensures.heap_order c.self.invariant.ordered) (ok_then c.push.result ok c.push.ensures.permutation) (ok_then c.push.result ok c.push.ensures.len) c.push.ensures.capacity)

pub returns-clause-value : goal.returns-clause-value
returns-clause-value g c =
    let held = found_object c.self.invariant c.args.self.now c.args.id c.self.view_is c.get.result c.if-is_none.ensures c.get.ensures in
    let entry = held_entry held.1 c.from.result (c.from.ensures ∙ c.slot_of-slot.ensures) c.index_mut-entry.result.now c.index_mut-entry.ensures.value in
    sym c.vacate-object.ensures.before ∙ ap (λ (e : Slot g.row.T.Denot). held_in e) entry ∙ sym held.1.got

pub returns-clause-removed : goal.returns-clause-removed
returns-clause-removed g c =
    let t = c.self.inside in
    let id = c.args.id in
    let held = found_object c.self.invariant c.args.self.now id c.self.view_is c.get.result c.if-is_none.ensures c.get.ensures in
    let place = c.from.ensures ∙ c.slot_of-slot.ensures in
    let entry = held_entry held.1 c.from.result place c.index_mut-entry.result.now c.index_mut-entry.ensures.value in
    let after = c.vacate-object.ensures.after ∙ ap (λ (e : Slot g.row.T.Denot). slot_after (seq_in e)) entry in
    (λ j. table_of t.slots t.first_seq (set t.entries.items (place j) (after j)))
    ∙ table-vacated c.self.invariant (id % 32768) (id / 32768) held.0 held.1.here id refl refl
    ∙ ap (λ (t : Table g.row.T.Denot). without_object t id) c.self.view_is
