-- The object that a search finds, in a sound table.
use Rattle.std.proofs.Common.{◌≡◌, ℕ, ◌%◌, ◌<◌, Bool, true, false, refl, sym, ap, ◌∙◌, arith, Option, Some, None, ⊎_elim}
use Rattle.std.specs.Prelude.{option_map, option_and_then, unwrap_or}
use Rattle.std.specs.FinMap as map
use Rattle.std.proofs.lemmas.Bool.{cases_Bool}
use Rattle.ipc_ids.specs.Table.{Table, IsSound, find_object, holds_at, id_at, id_of, object_at, seq_of}
use Rattle.ipc_ids.proofs.Least.{least_none, least_some}
use Rattle.ipc_ids.proofs.Identifiers.{slot_of-id, whole_id}

none_passes : {X : Type 0} (test : X → Bool) (o : Option X) → ((x : X) → o ≡ Some x → test x ≡ false) → unwrap_or (option_map test o) false ≡ false
none_passes test None fails = refl
none_passes test (Some x) fails = fails x refl

module _ {X : Type 0} (test : X → Bool) (t : Table X) where
  abbrev with_id : Option ℕ → Option (ℕ × X)
  with_id found = option_and_then (λ slot. option_map (λ x. (id_at t slot, x)) (object_at t slot)) found

  -- no object passes
  pub find_object-none : ((id : ℕ) (x : X) → map.get t.objects id ≡ Some x → test x ≡ false) → find_object test t ≡ None
  find_object-none fails =
      ap with_id (least_none (λ slot. holds_at test t slot) t.slots 0 (λ slot a b. none_passes test (object_at t slot) (λ x is. fails (id_at t slot) x is)))

  module _ (sound : IsSound t) where
    at_slot : (id : ℕ) (x : X) → map.get t.objects id ≡ Some x → id_at t (id % 32768) ≡ id
    at_slot id x there = ap (λ n. id_of n (id % 32768)) (sound.held id x there).2 ∙ sym (whole_id id)

    fails_before : (id : ℕ) (x : X) → ((j : ℕ) (y : X) → map.get t.objects j ≡ Some y → test y ≡ true → j ≡ id) → (slot : ℕ) → slot < id % 32768 → slot < 32768 → holds_at test t slot ≡ false
    fails_before id x alone slot before small = none_passes test (object_at t slot) (λ y is.
        ⊎_elim
        (λ (passes : test y ≡ true).
        let same : slot ≡ id % 32768 = sym (slot_of-id (seq_of t slot) slot small) ∙ ap (λ n. n % 32768) (alone (id_at t slot) y is passes) in
        absurd (omega (arith, same, before)))
        (λ (fails : test y ≡ false). fails)
        (cases_Bool (test y)))

    -- one object passes, and no other
    pub find_object-some : (id : ℕ) (x : X) → map.get t.objects id ≡ Some x → test x ≡ true → ((j : ℕ) (y : X) → map.get t.objects j ≡ Some y → test y ≡ true → j ≡ id) → find_object test t ≡ Some (id, x)
    find_object-some id x there passes alone =
        let slot = id % 32768 in
        let here : object_at t slot ≡ Some x = ap (λ n. map.get t.objects n) (at_slot id x there) ∙ there in
        let within = (sound.held id x there).0 in
        let first = least_some (λ k. holds_at test t k) t.slots 0 slot (omega arith) (omega (arith, within)) (λ k a b. fails_before id x alone k b (omega (arith, b, within, sound.few)))
        (ap (λ o. unwrap_or (option_map test o) false) here ∙ passes) in
        ap with_id first ∙ ap (λ o. option_map (λ y. (id_at t slot, y)) o) here ∙ ap (λ n. Some (n, x)) (at_slot id x there)
