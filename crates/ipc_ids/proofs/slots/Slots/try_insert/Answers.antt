use Rattle.std.proofs.Common.{◌≡◌, ℕ, List, [], ◌∷◌, ◌++◌, length, set, get_or, Some, sym, ap, ◌∙◌, subst, arith}
use Rattle.std.specs.Prelude.{is_none}
use Rattle.std.specs.BinaryHeap.{heap_items, heap_len, heap_capacity}
use Rattle.std.proofs.lemmas.Option.{slice_get_within, get_or_from_slice_get}
use Rattle.ipc_ids.specs.Table.{Table, id_of, next_id, with_object}
use Rattle.ipc_ids.specs.Slots.{seq_in, is_vacant, table_of, IsLayout}
use Rattle.ipc_ids.specs.declared.slots.Slot.{Slot}
use Rattle.ipc_ids.specs.declared.slots.Slot.TheVariants.{Held, Vacant}
use Rattle.ipc_ids.proofs.Changes.{ok_then, layout-filled, table-filled, layout-pushed, table-pushed}
use Rattle.ipc_ids.proofs.Free.{popped_slot, none_below_top, none_of_empty}
use Rattle.ipc_ids.proofs.Tables.{next_id-freed, next_id-fresh, next_id-full}
use Rattle.ipc_ids.proofs.slots.Slots.try_insert.Goals as goal

pub index_mut-requires : goal.index_mut-requires
index_mut-requires g c =
    let r = c.in-Some.field-0 in
    let top = popped_slot c.self.invariant r (heap_items c.pop.new.self) c.in-Some.ensures.permutation in
    omega (arith, c.from.ensures, slice_get_within c.self.inside.entries.items r.0 (Vacant top.0) top.1, c.self.inside.entries.ok.0)

pub fill-seq-requires : goal.fill-seq-requires
fill-seq-requires g c =
    let es = c.self.inside.entries.items in
    let r = c.in-Some.field-0 in
    let top = popped_slot c.self.invariant r (heap_items c.pop.new.self) c.in-Some.ensures.permutation in
    ap (λ (e : Slot g.row.T.Denot). is_vacant e)
    (c.index_mut.ensures.value ∙ ap (λ n. get_or es n c.index_mut.result.now) c.from.ensures ∙ get_or_from_slice_get es r.0 (Vacant top.0) c.index_mut.result.now top.1)

pub id_of-requires : goal.id_of-requires
id_of-requires g c =
    let r = c.in-Some.field-0 in
    let top = popped_slot c.self.invariant r (heap_items c.pop.new.self) c.in-Some.ensures.permutation in
    omega (arith, slice_get_within c.self.inside.entries.items r.0 (Vacant top.0) top.1, c.self.invariant.within, c.self.invariant.few)

pub invariant_of-self : goal.invariant_of-self
invariant_of-self g c =
    let t = c.self.inside in
    let r = c.in-Some.field-0 in
    let top = popped_slot c.self.invariant r (heap_items c.pop.new.self) c.in-Some.ensures.permutation in
    let seq : c.fill-seq.result ≡ top.0 =
    ap (λ (e : Slot g.row.T.Denot). seq_in e)
    (sym c.fill-seq.ensures.before ∙ c.index_mut.ensures.value ∙ ap (λ n. get_or t.entries.items n c.index_mut.result.now) c.from.ensures
    ∙ get_or_from_slice_get t.entries.items r.0 (Vacant top.0) c.index_mut.result.now top.1) in
    let after = c.fill-seq.ensures.after ∙ ap (λ n. Held n c.args.value) seq in
    subst (λ (es : List (Slot g.row.T.Denot)). IsLayout t.slots t.first_seq es (heap_items c.pop.new.self) (heap_len c.pop.new.self) (heap_capacity c.pop.new.self))
    (sym (λ j. set t.entries.items (c.from.ensures j) (after j)))
    (layout-filled c.self.invariant r top.0 top.1 c.args.value ((c.in-Some.ensures.heap_order c.self.invariant.ordered).0) c.in-Some.ensures.permutation c.in-Some.ensures.len c.in-Some.ensures.capacity)

pub returns-in-Some-clause-id : goal.returns-in-Some-clause-id
returns-in-Some-clause-id g c =
    let t = c.self.inside in
    let r = c.in-Some.field-0 in
    let top = popped_slot c.self.invariant r (heap_items c.pop.new.self) c.in-Some.ensures.permutation in
    let seq : c.fill-seq.result ≡ top.0 =
    ap (λ (e : Slot g.row.T.Denot). seq_in e)
    (sym c.fill-seq.ensures.before ∙ c.index_mut.ensures.value ∙ ap (λ n. get_or t.entries.items n c.index_mut.result.now) c.from.ensures
    ∙ get_or_from_slice_get t.entries.items r.0 (Vacant top.0) c.index_mut.result.now top.1) in
    ap (λ (t : Table g.row.T.Denot). next_id t) (sym c.self.view_is)
    ∙ next_id-freed c.self.invariant r.0 top.0 top.1 (none_below_top c.self.invariant r ((c.in-Some.ensures.heap_order c.self.invariant.ordered).1))
    ∙ ap (λ (n : ℕ). Some n) (sym (c.id_of.ensures ∙ ap (λ n. id_of n r.0) seq))

pub returns-in-Some-clause-inserted : goal.returns-in-Some-clause-inserted
returns-in-Some-clause-inserted g c =
    let t = c.self.inside in
    let r = c.in-Some.field-0 in
    let top = popped_slot c.self.invariant r (heap_items c.pop.new.self) c.in-Some.ensures.permutation in
    let seq : c.fill-seq.result ≡ top.0 =
    ap (λ (e : Slot g.row.T.Denot). seq_in e)
    (sym c.fill-seq.ensures.before ∙ c.index_mut.ensures.value ∙ ap (λ n. get_or t.entries.items n c.index_mut.result.now) c.from.ensures
    ∙ get_or_from_slice_get t.entries.items r.0 (Vacant top.0) c.index_mut.result.now top.1) in
    let after = c.fill-seq.ensures.after ∙ ap (λ n. Held n c.args.value) seq in
    (λ j. table_of t.slots t.first_seq (set t.entries.items (c.from.ensures j) (after j)))
    ∙ table-filled c.self.invariant r top.0 top.1 c.args.value
    ∙ (λ j. with_object (c.self.view_is j) (sym (c.id_of.ensures ∙ ap (λ n. id_of n r.0) seq) j) c.args.value)

pub returns-then-fresh-self-clause-fault : goal.returns-then-fresh-self-clause-fault
returns-then-fresh-self-clause-fault g c =
    let full = next_id-full c.self.invariant (omega (arith, c.if-fresh-self.true, c.len-fresh.ensures, c.self.inside.entries.ok.0)) (none_of_empty c.self.invariant c.in_default.ensures.none) in
    sym (ap (λ o. is_none o) (ap (λ (t : Table g.row.T.Denot). next_id t) (sym c.self.view_is) ∙ full))

pub returns-then-is_err-clause-fault : goal.returns-then-is_err-clause-fault
returns-then-is_err-clause-fault g c =
    let fresh = next_id-fresh c.self.invariant (omega (arith, c.if-fresh-self.false, c.len-fresh.ensures, c.self.inside.entries.ok.0)) (none_of_empty c.self.invariant c.in_default.ensures.none) in
    sym (ap (λ o. is_none o) (ap (λ (t : Table g.row.T.Denot). next_id t) (sym c.self.view_is) ∙ fresh))

pub invariant_of-self-2 : goal.invariant_of-self-2
invariant_of-self-2 g c =
    let t = c.self.inside in
    let fresh : c.len-fresh.result ≡ length t.entries.items = omega (arith, c.len-fresh.ensures, t.entries.ok.0) in
    let items = c.push_reserved.ensures.items ∙ ap (λ (es : List (Slot g.row.T.Denot)). es ++ Held t.first_seq c.args.value ∷ []) c.reserve-else-is_err.ensures.items in
    let room = ok_then c.reserve.result c.if-is_err.ensures.negation c.reserve.ensures.ok in
    subst (λ (es : List (Slot g.row.T.Denot)). IsLayout t.slots t.first_seq es (heap_items c.reserve.new.self) (heap_len c.reserve.new.self) (heap_capacity c.reserve.new.self))
    (sym items)
    (layout-pushed c.self.invariant c.args.value (omega (arith, fresh, c.if-fresh-self.false)) (c.reserve.ensures.items ∙ c.in_default.ensures.unchanged.0) (c.reserve.ensures.len ∙ c.in_default.ensures.unchanged.1) (omega (arith, fresh, room)))

pub returns-clause-id : goal.returns-clause-id
returns-clause-id g c =
    let t = c.self.inside in
    let fresh : c.len-fresh.result ≡ length t.entries.items = omega (arith, c.len-fresh.ensures, t.entries.ok.0) in
    ap (λ (t : Table g.row.T.Denot). next_id t) (sym c.self.view_is)
    ∙ next_id-fresh c.self.invariant (omega (arith, fresh, c.if-fresh-self.false)) (none_of_empty c.self.invariant c.in_default.ensures.none)
    ∙ ap (λ (n : ℕ). Some n) (sym (c.id_of-2.ensures ∙ ap (λ n. id_of t.first_seq n) fresh))

pub returns-clause-inserted : goal.returns-clause-inserted
returns-clause-inserted g c =
    let t = c.self.inside in
    let fresh : c.len-fresh.result ≡ length t.entries.items = omega (arith, c.len-fresh.ensures, t.entries.ok.0) in
    let items = c.push_reserved.ensures.items ∙ ap (λ (es : List (Slot g.row.T.Denot)). es ++ Held t.first_seq c.args.value ∷ []) c.reserve-else-is_err.ensures.items in
    ap (λ (es : List (Slot g.row.T.Denot)). table_of t.slots t.first_seq es) items
    ∙ table-pushed c.self.invariant c.args.value (omega (arith, fresh, c.if-fresh-self.false))
    ∙ (λ j. with_object (c.self.view_is j) (sym (c.id_of-2.ensures ∙ ap (λ n. id_of t.first_seq n) fresh) j) c.args.value)
