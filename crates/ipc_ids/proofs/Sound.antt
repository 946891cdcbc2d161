-- What stays true of a table while objects come, change and leave, and that a new identifier was never used.
use Rattle.std.proofs.Common.{◌≡◌, ℕ, ◌+◌, ◌/◌, ◌%◌, ◌<◌, ◌≤◌, Bool, true, false, refl, sym, ap, ◌∙◌, subst, arith, Option, Some, None, inl, inr, ⊎_elim}
use Rattle.std.specs.Prelude.{not, ◌&&◌, is_none, is_some, option_map, unwrap_or, nat_lt}
use Rattle.std.specs.Ordering.{nat_cmp}
use Rattle.std.specs.FinMap as map
use Rattle.std.proofs.lemmas.Bool.{cases_eq, false≢true}
use Rattle.std.proofs.lemmas.Bool.Decides.{nat_tests}
use Rattle.std.proofs.lemmas.Option.{none-some, same_Some}
use Rattle.ipc_ids.specs.Table.{Table, IsSound, WasUsed, empty_table, id_of, id_at, is_retired, is_usable, least_from, next_id, object_at, seq_of, with_object, without_object}
use Rattle.ipc_ids.proofs.Identifiers.{apart_eq, same_eq, seq_of-id, slot_of-id, whole_id}
use Rattle.ipc_ids.proofs.Ids.{get-inserted, get-removed}
use Rattle.ipc_ids.proofs.Least.{least_found}

module _ {X : Type 0} (m : map.FinMap nat_cmp X) where
  pub get-insert-same : (k : ℕ) (x : X) → map.get (map.insert m k x) k ≡ Some x
  get-insert-same k x = get-inserted m k x k ∙ rw (same_eq k k refl) refl

  pub get-insert-other : (k : ℕ) (x : X) (q : ℕ) → (q ≡ k → ⊥) → map.get (map.insert m k x) q ≡ map.get m q
  get-insert-other k x q ne = get-inserted m k x q ∙ rw (apart_eq k q (λ e. ne (sym e))) refl

  pub get-remove-same : (k : ℕ) → map.get (map.remove m k) k ≡ None
  get-remove-same k = get-removed m k k ∙ rw (same_eq k k refl) refl

  pub get-remove-other : (k q : ℕ) → (q ≡ k → ⊥) → map.get (map.remove m k) q ≡ map.get m q
  get-remove-other k q ne = get-removed m k q ∙ rw (apart_eq k q (λ e. ne (sym e))) refl

is_none-true : {X : Type 0} (o : Option X) → is_none o ≡ true → o ≡ None
is_none-true None is = refl
is_none-true (Some x) is = absurd (false≢true is)

-- what is true of the identifier of the next object
pub record IsFresh {X : Type 0} (t : Table X) (id : ℕ) : Type 0 where
  pub within : id % 32768 < t.slots
  pub small : id / 32768 ≤ 65535
  pub seq : seq_of t (id % 32768) ≡ id / 32768
  pub free : map.get t.objects id ≡ None

both : (a b : Bool) → a && b ≡ true → (a ≡ true) × (b ≡ true)
both true true is = (refl, refl)
both true false is = absurd (false≢true is)
both false b is = absurd (false≢true is)

not_above : (n : ℕ) → not (nat_lt 65535 n) ≡ true → n ≤ 65535
not_above n is = grind (arith, nat_tests)

module _ {X : Type 0} (t : Table X) (few : t.slots ≤ 32768) where
  fresh_at : (id slot : ℕ) → is_usable t slot ≡ true → slot < t.slots → id_at t slot ≡ id → IsFresh t id
  fresh_at id slot usable within is =
      let here : id % 32768 ≡ slot = ap (λ n. n % 32768) (sym is) ∙ slot_of-id (seq_of t slot) slot (omega (arith, within, few)) in
      let seq : id / 32768 ≡ seq_of t slot = ap (λ n. n / 32768) (sym is) ∙ seq_of-id (seq_of t slot) slot (omega (arith, within, few)) in
      let parts = both (not (is_retired t slot)) (is_none (object_at t slot)) usable in
      record {
        within = subst (λ n. n < t.slots) (sym here) within;
        small = subst (λ n. n ≤ 65535) (sym seq) (not_above (seq_of t slot) parts.0);
        seq = ap (λ n. seq_of t n) here ∙ sym seq;
        free = ap (λ n. map.get t.objects n) (sym is) ∙ is_none-true (object_at t slot) parts.1;
      }

  fresh_from : (id : ℕ) (o : Option ℕ) → o ≡ least_from (λ slot. is_usable t slot) t.slots 0 → option_map (λ slot. id_at t slot) o ≡ Some id → IsFresh t id
  fresh_from id None same is = absurd (none-some id is)
  fresh_from id (Some slot) same is =
      let found = least_found (λ slot. is_usable t slot) t.slots 0 slot (sym same) in
      fresh_at id slot found.0 (omega (arith, found.1)) (same_Some (id_at t slot) id is)

  -- the next object comes into a usable slot of the table
  pub next_id-fresh : (id : ℕ) → next_id t ≡ Some id → IsFresh t id
  next_id-fresh id is = fresh_from id (least_from (λ slot. is_usable t slot) t.slots 0) refl is

-- a new identifier was never used
pub fresh-unused : {X : Type 0} (t : Table X) (id : ℕ) → IsFresh t id → WasUsed t id → ⊥
fresh-unused t id fresh used =
    ⊎_elim
    (λ (there : map.contains_key t.objects id ≡ true). false≢true (sym (ap (λ o. is_some o) fresh.free) ∙ there))
    (λ (before : id / 32768 < seq_of t (id % 32768)). absurd (omega (arith, before, fresh.seq)))
    used

pub IsSound-empty : {X : Type 0} (slots first_seq : ℕ) → slots ≤ 32768 → IsSound (empty_table {X = X} slots first_seq)
IsSound-empty slots first_seq few = record {
  few = few;
  held = λ id x is. absurd (none-some x (sym (map.get-empty nat_cmp id) ∙ is));
}

module _ {X : Type 0} (t : Table X) (sound : IsSound t) where
  IsSound-with : (id : ℕ) (x : X) → id % 32768 < t.slots → id / 32768 ≤ 65535 → seq_of t (id % 32768) ≡ id / 32768 → IsSound (with_object t id x)
  IsSound-with id x within small seq = record {
    few = sound.few;
    held = λ j y is. ⊎_elim
        (λ (same : j ≡ id). (subst (λ n. n % 32768 < t.slots) (sym same) within, subst (λ n. n / 32768 ≤ 65535) (sym same) small, subst (λ n. seq_of t (n % 32768) ≡ n / 32768) (sym same) seq))
        (λ (ne : j ≡ id → ⊥). sound.held j y (sym (get-insert-other t.objects id x j ne) ∙ is))
        (cases_eq j id);
  }

  pub IsSound-new : (id : ℕ) (x : X) → IsFresh t id → IsSound (with_object t id x)
  IsSound-new id x fresh = IsSound-with id x fresh.within fresh.small fresh.seq

  pub IsSound-change : (id : ℕ) (x y : X) → map.get t.objects id ≡ Some y → IsSound (with_object t id x)
  IsSound-change id x y there = let held = sound.held id y there in IsSound-with id x held.0 held.1 held.2

  -- another identifier is in another slot
  apart_slots : (j id : ℕ) (y x : X) → map.get t.objects j ≡ Some y → map.get t.objects id ≡ Some x → (j ≡ id → ⊥) → j % 32768 ≡ id % 32768 → ⊥
  apart_slots j id y x at_j at_id ne same =
      let seqs : j / 32768 ≡ id / 32768 = sym (sound.held j y at_j).2 ∙ ap (λ n. seq_of t n) same ∙ (sound.held id x at_id).2 in
      ne (whole_id j ∙ (λ i. id_of (seqs i) (same i)) ∙ sym (whole_id id))

  pub IsSound-without : (id : ℕ) (x : X) → map.get t.objects id ≡ Some x → IsSound (without_object t id)
  IsSound-without id x there = record {
    few = sound.few;
    held = λ j y is. ⊎_elim
        (λ (same : j ≡ id). absurd (none-some y (sym (get-remove-same t.objects id) ∙ ap (λ n. map.get (map.remove t.objects id) n) (sym same) ∙ is)))
        (λ (ne : j ≡ id → ⊥).
        let at_j = sym (get-remove-other t.objects id j ne) ∙ is in
        let held = sound.held j y at_j in
        (held.0, held.1, ap (λ o. unwrap_or o t.first_seq) (get-insert-other t.seqs (id % 32768) (id / 32768 + 1) (j % 32768) (apart_slots j id y x at_j there ne)) ∙ held.2))
        (cases_eq j id);
  }

  -- the removed object's slot continues with the next sequence number, the others with theirs
  seq-removed : (id j : ℕ) → j % 32768 ≡ id % 32768 → seq_of (without_object t id) (j % 32768) ≡ id / 32768 + 1
  seq-removed id j same = ap (λ n. seq_of (without_object t id) n) same ∙ ap (λ o. unwrap_or o t.first_seq) (get-insert-same t.seqs (id % 32768) (id / 32768 + 1))

  seq-other : (id j : ℕ) → (j % 32768 ≡ id % 32768 → ⊥) → seq_of (without_object t id) (j % 32768) ≡ seq_of t (j % 32768)
  seq-other id j ne = ap (λ o. unwrap_or o t.first_seq) (get-insert-other t.seqs (id % 32768) (id / 32768 + 1) (j % 32768) ne)

  removed-there : (id : ℕ) (j : ℕ) → map.contains_key t.objects j ≡ true → WasUsed (without_object t id) j
  removed-there id j there = ⊎_elim
      (λ (same : j ≡ id). let seq = seq-removed id j (ap (λ n. n % 32768) same) in inr (omega (arith, seq, ap (λ n. n / 32768) same)))
      (λ (ne : j ≡ id → ⊥). inl (ap (λ o. is_some o) (get-remove-other t.objects id j ne) ∙ there))
      (cases_eq j id)

  removed-before : (id : ℕ) (x : X) → map.get t.objects id ≡ Some x → (j : ℕ) → j / 32768 < seq_of t (j % 32768) → WasUsed (without_object t id) j
  removed-before id x there j before = ⊎_elim
      (λ (same : j % 32768 ≡ id % 32768).
      let seq = seq-removed id j same in
      let was : seq_of t (j % 32768) ≡ id / 32768 = ap (λ n. seq_of t n) same ∙ (sound.held id x there).2 in
      inr (omega (arith, seq, was, before)))
      (λ (ne : j % 32768 ≡ id % 32768 → ⊥). let seq = seq-other id j ne in inr (omega (arith, seq, before)))
      (cases_eq (j % 32768) (id % 32768))

  pub WasUsed-without : (id : ℕ) (x : X) → map.get t.objects id ≡ Some x → (j : ℕ) → WasUsed t j → WasUsed (without_object t id) j
  WasUsed-without id x there j used = ⊎_elim (removed-there id j) (removed-before id x there j) used

module _ {X : Type 0} (t : Table X) where
  pub WasUsed-with : (id : ℕ) (x : X) (j : ℕ) → WasUsed t j → WasUsed (with_object t id x) j
  WasUsed-with id x j used = ⊎_elim
      (λ (there : map.contains_key t.objects j ≡ true). ⊎_elim
      (λ (same : j ≡ id). inl (ap (λ n. map.contains_key (map.insert t.objects id x) n) same ∙ ap (λ o. is_some o) (get-insert-same t.objects id x)))
      (λ (ne : j ≡ id → ⊥). inl (ap (λ o. is_some o) (get-insert-other t.objects id x j ne) ∙ there))
      (cases_eq j id))
      (λ (before : j / 32768 < seq_of t (j % 32768)). inr before)
      used

  -- an identifier with an object is used
  pub WasUsed-there : (id : ℕ) (x : X) → map.get t.objects id ≡ Some x → WasUsed t id
  WasUsed-there id x there = inl (ap (λ o. is_some o) there)
