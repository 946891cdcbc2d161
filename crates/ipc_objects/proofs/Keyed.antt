-- Objects and their keys: what a search by key finds, and that they stay tied while objects come, change and leave.
use Rattle.std.proofs.Common.{◌≡◌, ℕ, ◌≤◌, true, false, refl, sym, ap, ◌∙◌, Option, Some, None, ⊎_elim}
use Rattle.std.specs.Prelude.{◌==◌, if◌then◌else◌}
use Rattle.std.specs.Ordering.{nat_cmp}
use Rattle.std.specs.FinMap as map
use Rattle.std.proofs.lemmas.Bool.{cases_Bool, cases_eq, eq-eqb, eqb-true, false≢true, ne_eqb}
use Rattle.std.proofs.lemmas.Option.{none-some, same_Some}
use Rattle.ipc_ids.specs.Table.{Table, IsSound, empty_table, find_object, with_object, without_object}
use Rattle.ipc_ids.proofs.Ids.{same_maps}
use Rattle.ipc_ids.proofs.Searches.{find_object-none, find_object-some}
use Rattle.ipc_ids.proofs.Sound.{IsFresh, IsSound-change, IsSound-empty, IsSound-new, IsSound-without, get-insert-other, get-insert-same, get-remove-other, get-remove-same}
use Rattle.ipc_objects.specs.declared.object.Object.{Object}
use Rattle.ipc_objects.specs.Objects.{AreKeyed, has_key, with_key}

module _ {X : Type 0} where
  has_key-from : (key : ℕ) (object : Object X) → (key ≡ 0 → ⊥) → object.perm.key ≡ key → has_key key object ≡ true
  has_key-from key object nonzero same = rw (ne_eqb key 0 nonzero) (eq-eqb object.perm.key key same)

  key-of : (key : ℕ) (object : Object X) → has_key key object ≡ true → object.perm.key ≡ key
  key-of key object has = ⊎_elim
      (λ (zero : (key == 0) ≡ true). absurd (false≢true (rw zero at has)))
      (λ (nonzero : (key == 0) ≡ false). eqb-true object.perm.key key (rw nonzero at has))
      (cases_Bool (key == 0))

  nonzero-of : (key : ℕ) (object : Object X) → has_key key object ≡ true → key ≡ 0 → ⊥
  nonzero-of key object has zero = false≢true (rw (eq-eqb key 0 zero) at has)

  -- no object, and no key
  pub AreKeyed-empty : (slots first_seq : ℕ) → slots ≤ 32768 → AreKeyed {X = X} (empty_table slots first_seq) map.empty
  AreKeyed-empty slots first_seq few = record {
    sound = IsSound-empty slots first_seq few;
    private = map.get-empty nat_cmp 0;
    bound = λ key id is. absurd (none-some id (sym (map.get-empty nat_cmp key) ∙ is));
    keyed = λ id object is has. absurd (none-some object (sym (map.get-empty nat_cmp id) ∙ is));
  }

  module _ (t : Table (Object X)) (keys : map.FinMap nat_cmp ℕ) (are : AreKeyed t keys) where
    bound-nonzero : (key id : ℕ) → map.get keys key ≡ Some id → key ≡ 0 → ⊥
    bound-nonzero key id bound zero = none-some id (sym are.private ∙ ap (λ k. map.get keys k) (sym zero) ∙ bound)

    -- an object that has the key is the one to which the key is bound
    pub bound-of : (key id : ℕ) (object : Object X) → map.get t.objects id ≡ Some object → has_key key object ≡ true → map.get keys key ≡ Some id
    bound-of key id object there has =
        let same = key-of key object has in
        ap (λ k. map.get keys k) (sym same) ∙ are.keyed id object there (λ zero. nonzero-of key object has (sym same ∙ zero))

    pub find-bound : (key id : ℕ) (object : Object X) → map.get keys key ≡ Some id → map.get t.objects id ≡ Some object → find_object (has_key key) t ≡ Some (id, object)
    find-bound key id object bound there =
        let held = are.bound key id bound in
        let same : held.0 ≡ object = same_Some held.0 object (sym held.1 ∙ there) in
        find_object-some (has_key key) t are.sound id object there (has_key-from key object (bound-nonzero key id bound) (ap (λ (o : Object X). o.perm.key) (sym same) ∙ held.2))
        (λ j other is has. same_Some j id (sym (bound-of key j other is has) ∙ bound))

    pub find-unbound : (key : ℕ) → map.get keys key ≡ None → find_object (has_key key) t ≡ None
    find-unbound key free = find_object-none (has_key key) t (λ id object there. ⊎_elim
        (λ (has : has_key key object ≡ true). absurd (none-some id (sym free ∙ bound-of key id object there has)))
        (λ (lacks : has_key key object ≡ false). lacks)
        (cases_Bool (has_key key object)))

    free-where : (key : ℕ) (o : Option ℕ) → o ≡ map.get keys key → find_object (has_key key) t ≡ None → o ≡ None
    free-where key None is none = refl
    free-where key (Some id) is none =
        let held = are.bound key id (sym is) in absurd (none-some (id, held.0) (sym none ∙ find-bound key id held.0 (sym is) held.1))

    -- a key that no object has isn't bound
    pub unbound-where : (key : ℕ) → find_object (has_key key) t ≡ None → map.get keys key ≡ None
    unbound-where key none = free-where key (map.get keys key) refl none

    -- an object stays while another comes
    kept : (id : ℕ) (object : Object X) → map.get t.objects id ≡ None → (key j : ℕ) → (other : Object X) × (map.get t.objects j ≡ Some other) × (other.perm.key ≡ key)
        → (other : Object X) × (map.get (map.insert t.objects id object) j ≡ Some other) × (other.perm.key ≡ key)
    kept id object free key j held =
        (held.0, get-insert-other t.objects id object j (λ (same : j ≡ id). none-some held.0 (sym free ∙ ap (λ n. map.get t.objects n) (sym same) ∙ held.1)) ∙ held.1, held.2)

    -- the object that was put at the identifier is the one that is found there
    put : (id j : ℕ) (object other : Object X) → j ≡ id → map.get (map.insert t.objects id object) j ≡ Some other → object ≡ other
    put id j object other same is =
        same_Some object other (sym (get-insert-same t.objects id object) ∙ ap (λ n. map.get (map.insert t.objects id object) n) (sym same) ∙ is)

    AreKeyed-bound : (id : ℕ) (object : Object X) → IsFresh t id → (object.perm.key ≡ 0 → ⊥) → map.get keys object.perm.key ≡ None
        → AreKeyed (with_object t id object) (map.insert keys object.perm.key id)
    AreKeyed-bound id object fresh nonzero free =
        let key = object.perm.key in
        record {
          sound = IsSound-new t are.sound id object fresh;
          private = get-insert-other keys key id 0 (λ zero. nonzero (sym zero)) ∙ are.private;
          bound = λ k j is. ⊎_elim
              (λ (same : k ≡ key).
              let at : id ≡ j = same_Some id j (sym (get-insert-same keys key id) ∙ ap (λ n. map.get (map.insert keys key id) n) (sym same) ∙ is) in
              (object, ap (λ n. map.get (map.insert t.objects id object) n) (sym at) ∙ get-insert-same t.objects id object, sym same))
              (λ (ne : k ≡ key → ⊥). kept id object fresh.free k j (are.bound k j (sym (get-insert-other keys key id k ne) ∙ is)))
              (cases_eq k key);
          keyed = λ j other is has. ⊎_elim
              (λ (same : j ≡ id).
              ap (λ (o : Object X). map.get (map.insert keys key id) o.perm.key) (sym (put id j object other same is)) ∙ get-insert-same keys key id ∙ ap (λ (n : ℕ). Some n) (sym same))
              (λ (ne : j ≡ id → ⊥).
              let bound = are.keyed j other (sym (get-insert-other t.objects id object j ne) ∙ is) has in
              get-insert-other keys key id other.perm.key (λ (same : other.perm.key ≡ key). none-some j (sym free ∙ ap (λ n. map.get keys n) (sym same) ∙ bound)) ∙ bound)
              (cases_eq j id);
        }

    AreKeyed-private : (id : ℕ) (object : Object X) → IsFresh t id → object.perm.key ≡ 0 → AreKeyed (with_object t id object) keys
    AreKeyed-private id object fresh zero = record {
      sound = IsSound-new t are.sound id object fresh;
      private = are.private;
      bound = λ k j is. kept id object fresh.free k j (are.bound k j is);
      keyed = λ j other is has. ⊎_elim
          (λ (same : j ≡ id). absurd (has (ap (λ (o : Object X). o.perm.key) (sym (put id j object other same is)) ∙ zero)))
          (λ (ne : j ≡ id → ⊥). are.keyed j other (sym (get-insert-other t.objects id object j ne) ∙ is) has)
          (cases_eq j id);
    }

    -- an object comes with a key that is free, or with none
    pub AreKeyed-new : (id : ℕ) (object : Object X) → IsFresh t id → map.get keys object.perm.key ≡ None → AreKeyed (with_object t id object) (with_key keys object.perm.key id)
    AreKeyed-new id object fresh free = ⊎_elim
        (λ (zero : object.perm.key ≡ 0). rw (eq-eqb object.perm.key 0 zero) (AreKeyed-private id object fresh zero))
        (λ (nonzero : object.perm.key ≡ 0 → ⊥). rw (ne_eqb object.perm.key 0 nonzero) (AreKeyed-bound id object fresh nonzero free))
        (cases_eq object.perm.key 0)

    -- an object changes, and keeps its key
    pub AreKeyed-changed : (id : ℕ) (old new : Object X) → map.get t.objects id ≡ Some old → new.perm.key ≡ old.perm.key → AreKeyed (with_object t id new) keys
    AreKeyed-changed id old new there same_key = record {
      sound = IsSound-change t are.sound id new old there;
      private = are.private;
      bound = λ k j is.
          let held = are.bound k j is in
          ⊎_elim
          (λ (same : j ≡ id).
          let at : old ≡ held.0 = same_Some old held.0 (sym there ∙ ap (λ n. map.get t.objects n) (sym same) ∙ held.1) in
          (new, ap (λ n. map.get (map.insert t.objects id new) n) same ∙ get-insert-same t.objects id new, same_key ∙ ap (λ (o : Object X). o.perm.key) at ∙ held.2))
          (λ (ne : j ≡ id → ⊥). (held.0, get-insert-other t.objects id new j ne ∙ held.1, held.2))
          (cases_eq j id);
      keyed = λ j other is has. ⊎_elim
          (λ (same : j ≡ id).
          let key : other.perm.key ≡ old.perm.key = ap (λ (o : Object X). o.perm.key) (sym (put id j new other same is)) ∙ same_key in
          ap (λ n. map.get keys n) key ∙ are.keyed id old there (λ zero. has (key ∙ zero)) ∙ ap (λ (n : ℕ). Some n) (sym same))
          (λ (ne : j ≡ id → ⊥). are.keyed j other (sym (get-insert-other t.objects id new j ne) ∙ is) has)
          (cases_eq j id);
    }

    -- an object leaves, or stays without a key: its key is bound no longer, and all others are as before
    module _ (after : Table (Object X)) (sound : IsSound after) (id : ℕ) (object : Object X) (there : map.get t.objects id ≡ Some object)
        (rest : (j : ℕ) → (j ≡ id → ⊥) → map.get after.objects j ≡ map.get t.objects j) (here : (other : Object X) → map.get after.objects id ≡ Some other → other.perm.key ≡ 0) where
      AreKeyed-unbound : AreKeyed after (map.remove keys object.perm.key)
      AreKeyed-unbound =
          let key = object.perm.key in
          record {
            sound = sound;
            private = ⊎_elim
                (λ (same : 0 ≡ key). ap (λ n. map.get (map.remove keys n) 0) (sym same) ∙ get-remove-same keys 0)
                (λ (ne : 0 ≡ key → ⊥). get-remove-other keys key 0 ne ∙ are.private)
                (cases_eq 0 key);
            bound = λ k j is. ⊎_elim
                (λ (same : k ≡ key). absurd (none-some j (sym (get-remove-same keys key) ∙ ap (λ n. map.get (map.remove keys key) n) (sym same) ∙ is)))
                (λ (ne : k ≡ key → ⊥).
                let held = are.bound k j (sym (get-remove-other keys key k ne) ∙ is) in
                let apart : j ≡ id → ⊥ = λ same.
                let same_object : held.0 ≡ object = same_Some held.0 object (sym held.1 ∙ ap (λ n. map.get t.objects n) same ∙ there) in ne (sym held.2 ∙ ap (λ (o : Object X). o.perm.key) same_object) in
                (held.0, rest j apart ∙ held.1, held.2))
                (cases_eq k key);
            keyed = λ j other is has. ⊎_elim
                (λ (same : j ≡ id). absurd (has (here other (ap (λ n. map.get after.objects n) (sym same) ∙ is))))
                (λ (ne : j ≡ id → ⊥).
                let bound = are.keyed j other (sym (rest j ne) ∙ is) has in
                let apart : other.perm.key ≡ key → ⊥ = λ same.
                ne (same_Some j id (sym bound ∙ ap (λ n. map.get keys n) same ∙ are.keyed id object there (λ zero. has (same ∙ zero)))) in
                get-remove-other keys key other.perm.key apart ∙ bound)
                (cases_eq j id);
          }

    pub AreKeyed-gone : (id : ℕ) (object : Object X) → map.get t.objects id ≡ Some object → AreKeyed (without_object t id) (map.remove keys object.perm.key)
    AreKeyed-gone id object there = AreKeyed-unbound (without_object t id) (IsSound-without t are.sound id object there) id object there
        (λ j ne. get-remove-other t.objects id j ne)
        (λ other is. absurd (none-some other (sym (get-remove-same t.objects id) ∙ is)))

    pub AreKeyed-freed : (id : ℕ) (old new : Object X) → map.get t.objects id ≡ Some old → new.perm.key ≡ 0 → AreKeyed (with_object t id new) (map.remove keys old.perm.key)
    AreKeyed-freed id old new there freed = AreKeyed-unbound (with_object t id new) (IsSound-change t are.sound id new old there) id old there
        (λ j ne. get-insert-other t.objects id new j ne)
        (λ other is. ap (λ (o : Object X). o.perm.key) (sym (put id id new other refl is)) ∙ freed)

    other-with_key : (key id q : ℕ) → (q ≡ key → ⊥) → map.get (with_key keys key id) q ≡ map.get keys q
    other-with_key key id q ne = ⊎_elim
        (λ (zero : key ≡ 0). ap (λ b. map.get (if b then keys else map.insert keys key id) q) (eq-eqb key 0 zero))
        (λ (nonzero : key ≡ 0 → ⊥). ap (λ b. map.get (if b then keys else map.insert keys key id) q) (ne_eqb key 0 nonzero) ∙ get-insert-other keys key id q ne)
        (cases_eq key 0)

    -- a key that was bound, and is unbound again
    pub unbound-again : (key id : ℕ) → map.get keys key ≡ None → map.remove (with_key keys key id) key ≡ keys
    unbound-again key id free = same_maps _ _ (λ q. ⊎_elim
        (λ (same : q ≡ key). ap (λ n. map.get (map.remove (with_key keys key id) key) n) same ∙ get-remove-same (with_key keys key id) key ∙ sym free ∙ ap (λ n. map.get keys n) (sym same))
        (λ (ne : q ≡ key → ⊥). get-remove-other (with_key keys key id) key q ne ∙ other-with_key key id q ne)
        (cases_eq q key))
