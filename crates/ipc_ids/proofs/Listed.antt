-- The identifiers of a table by rising slot: no slot that was never used has one, and an image has the same.
use Rattle.std.proofs.Common.{◌≡◌, ℕ, zero, suc, ◌+◌, ◌≤◌, List, [], length, refl, ap, ◌∙◌, arith, Option, Some, None}
use Rattle.std.specs.Prelude.{nat_lt, option_map, filter_map, if◌then◌else◌}
use Rattle.std.specs.List.{cons_option, range_with_len}
use Rattle.std.specs.declared.cmp.Reverse.{Reverse}
use Rattle.std.proofs.lemmas.Option.{slice_get_past}
use Rattle.ipc_ids.specs.Images.{image}
use Rattle.ipc_ids.specs.Table.{Table, id_of, id_at, id_in, ids_of, object_at}
use Rattle.ipc_ids.specs.Slots.{IsLayout, table_of}
use Rattle.ipc_ids.specs.declared.slots.Slot.{Slot}
use Rattle.ipc_ids.proofs.Images.{get-image}
use Rattle.ipc_ids.proofs.Tables.{held_seq_at, id_in-table}

-- from some number on, nothing is given
module _ (h : ℕ → Option ℕ) where
  none-past : (n a : ℕ) → ((q : ℕ) → a ≤ q → h q ≡ None) → filter_map h (range_with_len a n) ≡ []
  none-past zero a none = refl
  none-past (suc n) a none = ap (λ o. cons_option o (filter_map h (range_with_len (a + 1) n))) (none a (omega arith)) ∙ none-past n (a + 1) (λ q le. none q (omega arith))

  front-of : (n m a : ℕ) → n ≤ m → ((q : ℕ) → a + n ≤ q → h q ≡ None) → filter_map h (range_with_len a m) ≡ filter_map h (range_with_len a n)
  front-of zero m a le none = none-past m a (λ q past. none q (omega arith))
  front-of (suc n) zero a le none = absurd (omega arith)
  front-of (suc n) (suc m) a le none = ap (λ l. cons_option (h a) l) (front-of n m (a + 1) (omega arith) (λ q past. none q (omega arith)))

pub ids_of-table : {X : Type 0} {slots first : ℕ} {es : List (Slot X)} {free : List (Reverse ℕ)} {len capacity : ℕ} (i : IsLayout slots first es free len capacity)
    → ids_of (table_of slots first es) ≡ filter_map (λ slot. id_in (table_of slots first es) slot) (range_with_len 0 (length es))
unfolding ids_of
ids_of-table {X} {slots} {first} {es} i =
    front-of (λ slot. id_in (table_of slots first es) slot) (length es) slots 0 i.within
    (λ q past. id_in-table i q ∙ ap (λ o. option_map (λ seq. id_of seq q) (held_seq_at o)) (slice_get_past es q (omega arith)))

-- the identifier in a slot, and so all of them, are those of the image
module _ {X Y : Type 0} (f : X → Y) (t : Table X) where
  mapped : {Z : Type 0} (z : Z) (o : Option X) → option_map (λ (y : Y). z) (option_map f o) ≡ option_map (λ (x : X). z) o
  mapped z None = refl
  mapped z (Some x) = refl

  pub id_in-image : (slot : ℕ) → id_in (image f t) slot ≡ id_in t slot
  id_in-image slot =
      ap (λ o. if nat_lt slot t.slots then o else None)
      (ap (option_map (λ y. id_at t slot)) (get-image f t.objects (id_at t slot)) ∙ mapped (id_at t slot) (object_at t slot))

  pub ids_of-image : ids_of (image f t) ≡ ids_of t
  unfolding ids_of
  ids_of-image = ap (λ (h : ℕ → Option ℕ). filter_map h (range_with_len 0 t.slots)) (λ i slot. id_in-image slot i)
