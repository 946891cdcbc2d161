use Rattle.std.proofs.Common.{◌≡◌, ℕ, None, Some, sym, ap, ◌∙◌, subst}
use Rattle.std.specs.Ordering.{nat_cmp}
use Rattle.std.specs.FinMap as map
use Rattle.std.proofs.lemmas.Option.{same_Some}
use Rattle.ipc_ids.specs.Table.{Table, find_object, next_id, with_object}
use Rattle.ipc_ids.proofs.Sound.{next_id-fresh}
use Rattle.ipc_objects.specs.declared.object.Object.{Object}
use Rattle.ipc_objects.specs.Objects.{AreKeyed, has_key}
use Rattle.ipc_objects.proofs.Keyed.{AreKeyed-new, unbound-again, unbound-where}
use Rattle.ipc_objects.proofs.objects.Objects.insert.Goals as goal

-- the key of a new object is free, where the slots are those of the table before the call
free : {X : Type 0} (slots now : Table (Object X)) (keys : map.FinMap nat_cmp ℕ) → AreKeyed slots keys → slots ≡ now
    → (key : ℕ) → find_object (has_key key) now ≡ None → map.get keys key ≡ None
free slots now keys are same key none = unbound-where slots keys are key (ap (λ (t : Table (Object _)). find_object (has_key key) t) same ∙ none)

pub bind_key-requires : goal.bind_key-requires
bind_key-requires g c = free c.self.inside.slots c.args.self.now c.self.inside.keys c.self.invariant c.self.view_is c.args.object.perm.key c.requires.free

pub invariant_of-self-in-Ok : goal.invariant_of-self-in-Ok
invariant_of-self-in-Ok g c =
    let q = c.self.inside in
    let key = c.args.object.perm.key in
    let next = c.in-Some.next in
    let next_is : next_id q.slots ≡ Some next = sym c.in-Some.ensures in
    let same : c.in-Ok.id ≡ next = same_Some c.in-Ok.id next (sym c.in-Ok.ensures.id ∙ next_is) in
    let slots : c.try_insert.new.self ≡ with_object q.slots next c.args.object = c.in-Ok.ensures.inserted ∙ ap (λ n. with_object q.slots n c.args.object) same in
    let unbound = free q.slots c.args.self.now q.keys c.self.invariant c.self.view_is key c.requires.free in
    let new = AreKeyed-new q.slots q.keys c.self.invariant next c.args.object (next_id-fresh q.slots c.self.invariant.sound.few next next_is) unbound in
    subst (λ (t : Table (Object g.row.T.Denot)). AreKeyed t c.bind_key.new.keys) (sym slots) (subst (λ m. AreKeyed (with_object q.slots next c.args.object) m) (sym c.in_ok-bind_key.ensures.ok) new)

pub invariant_of-self-in-Err-Memory : goal.invariant_of-self-in-Err-Memory
invariant_of-self-in-Err-Memory g c =
    let q = c.self.inside in
    let key = c.args.object.perm.key in
    let unbound = free q.slots c.args.self.now q.keys c.self.invariant c.self.view_is key c.requires.free in
    let keys : c.unbind.new.self ≡ q.keys = c.unbind.ensures ∙ ap (λ m. map.remove m key) c.in_ok-bind_key.ensures.ok ∙ unbound-again q.slots q.keys c.self.invariant key c.in-Some.next unbound in
    subst (λ (t : Table (Object g.row.T.Denot)). AreKeyed t c.unbind.new.self) (sym c.in-Err-Memory.ensures.err) (subst (λ m. AreKeyed q.slots m) (sym keys) c.self.invariant)
