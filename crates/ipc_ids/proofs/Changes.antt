-- What changes of one slot make of a table.
use Rattle.std.proofs.Common.{◌≡◌, ℕ, ◌+◌, ◌/◌, ◌%◌, ◌<◌, ◌≤◌, Bool, true, false, cond, List, [], ◌∷◌, ◌++◌, length, set, get_or, refl, sym, ap, ◌∙◌, subst, arith, Option, Some, None, Result, Ok, Err, Bor, ⊎_elim}
use Rattle.std.specs.Prelude.{nat_eq, nat_lt, slice_get, IsSome, is_some, is_ok, OnOk, option_copied}
use Rattle.std.specs.Ordering.{nat_cmp}
use Rattle.std.specs.FinMap as map
use Rattle.std.specs.declared.cmp.Reverse.{Reverse}
use Rattle.std.specs.BinaryHeap.{IsHeap}
use Rattle.std.specs.List.Sorted.{IsPermutation}
use Rattle.std.proofs.lemmas.Bool.{cases_Bool, true≢false, eqb-true, lt-ltb, le-ltb, ltb-true, ltb-false}
use Rattle.std.proofs.lemmas.List.{length-set, length_push}
use Rattle.std.proofs.lemmas.List.Sums.{sum_by_push, count_by-le-length}
use Rattle.std.proofs.lemmas.Option.{slice_get_past, slice_get_within, get_or_from_slice_get, none-some, cond_some}
use Rattle.ipc_ids.specs.Table.{Table, id_of, with_object, without_object}
use Rattle.ipc_ids.specs.Slots.{seq_in, held_in, is_vacant, slot_after, seqs_from, objects_from, table_of, IsSoundSlot, is_vacant_at, lowest_first, count_of, IsLayout}
use Rattle.ipc_ids.specs.declared.slots.Slot.{Slot}
use Rattle.ipc_ids.specs.declared.slots.Slot.TheVariants.{Held, Vacant, Retired}
use Rattle.ipc_ids.proofs.Ids.{get-inserted, get-removed, cond_same}
use Rattle.ipc_ids.proofs.Identifiers.{same_eq, apart_eq, by_eq, whole_id}
use Rattle.ipc_ids.proofs.Places.{IsWith, IsWith-set, IsWith-push, count-set, count-popped, count-pushed}
use Rattle.ipc_ids.proofs.Entries.{raised, found, get-objects_by_id, objects_with, seqs_with, seqs_same}
use Rattle.ipc_ids.proofs.Free.{layout-with}
use Rattle.ipc_ids.proofs.Tables.{few}

-- the slot in which an object is found holds it, with that sequence number
held_found : {X : Type 0} (s : ℕ) (o : Option (Slot X)) (x : X) → found s o ≡ Some x → o ≡ Some (Held s x)
held_found s None x is = absurd (none-some x is)
held_found s (Some (Held seq y)) x is = let both = cond_some (nat_eq seq s) y x is in λ i. Some (Held (eqb-true seq s both.0 i) (both.1 i))
held_found s (Some (Vacant seq)) x is = absurd (none-some x (sym (cond_same (nat_eq seq s) None) ∙ is))
held_found s (Some Retired) x is = absurd (none-some x (sym (cond_same (nat_eq 65536 s) None) ∙ is))

pub held_by_id : {X : Type 0} (es : List (Slot X)) (id : ℕ) (x : X) → length es ≤ 32768 → map.get (objects_from 0 es) id ≡ Some x → slice_get es (id % 32768) ≡ Some (Held (id / 32768) x)
held_by_id es id x fits is = held_found (id / 32768) (slice_get es (id % 32768)) x (sym (get-objects_by_id es id fits) ∙ is)

pub some_of : {A : Type 0} (o : Option A) → IsSome o → (x : A) × (o ≡ Some x)
some_of None h = absurd (true≢false (sym h))
some_of (Some x) h = (x, refl)

twice : {A : Type 0} (b : Bool) (x y z : A) → cond b x z ≡ cond b x (cond b y z)
twice true x y z = refl
twice false x y z = refl

same_table : {X : Type 0} (slots first : ℕ) (es fs : List (Slot X)) (seqs : map.FinMap nat_cmp ℕ) (objects : map.FinMap nat_cmp X) → seqs_from first 0 fs ≡ seqs → objects_from 0 fs ≡ objects
    → table_of slots first fs ≡ record { slots = slots; first_seq = first; seqs = seqs; objects = objects }
same_table slots first es fs seqs objects p q = λ i. record { slots = slots; first_seq = first; seqs = p i; objects = q i }

module _ {X : Type 0} {slots first : ℕ} {es : List (Slot X)} {free : List (Reverse ℕ)} {len capacity : ℕ} (i : IsLayout slots first es free len capacity) where
  -- an object is written into one slot, and the sequence number of that slot stays
  table-with : (fs : List (Slot X)) (k s : ℕ) (x : X) → k < 32768 → length fs ≤ 32768 → IsWith es k (Held s x) fs → raised first (slice_get es k) ≡ raised first (Some (Held s x))
      → ((t : ℕ) → cond (nat_eq s t) (Some x) None ≡ cond (nat_eq s t) (Some x) (found t (slice_get es k))) → table_of slots first fs ≡ with_object (table_of slots first es) (id_of s k) x
  table-with fs k s x below fits is seq object =
      same_table slots first es fs (seqs_from first 0 es) (map.insert (objects_from 0 es) (id_of s k) x)
      (seqs_same es fs k (Held s x) is first (sym seq))
      (objects_with es fs k (Held s x) is s (Some x) (map.insert (objects_from 0 es) (id_of s k) x) below (few i) fits (λ q. get-inserted (objects_from 0 es) (id_of s k) x q) object)

  counts_kept : (k : ℕ) (e : Slot X) → is_vacant_at (slice_get es k) ≡ is_vacant e → (q : ℕ) → count_of q free ≡ cond (nat_eq k q) (cond (is_vacant e) 1 0) (count_of q free)
  counts_kept k e same q =
      by_eq k q
      (λ here. i.places q ∙ ap (λ n. cond (is_vacant_at (slice_get es n)) 1 0) (sym here) ∙ ap (λ b. cond b 1 0) same
      ∙ ap (λ b. cond b (cond (is_vacant e) 1 0) (count_of q free)) (sym (same_eq k q here)))
      (λ apart. ap (λ b. cond b (cond (is_vacant e) 1 0) (count_of q free)) (sym (apart_eq k q apart)))

  -- the object of a slot gives way to another one
  module _ (k s : ℕ) (x : X) (here : slice_get es k ≡ Some (Held s x)) (w : X) where
    within_held : k < length es
    within_held = slice_get_within es k (Held s x) here

    pub layout-written : IsLayout slots first (set es k (Held s w)) free len capacity
    layout-written =
        let size = length-set es k (Held s w) in
        let count = count-set is_vacant es k (Held s x) (Held s w) here in
        layout-with i k (Held s w) (IsWith-set es k (Held s w) within_held) (omega (arith, size, i.within)) (omega (arith, size, i.room)) (i.each k (Held s x) here) i.ordered
        (counts_kept k (Held s w) (ap (λ o. is_vacant_at o) here)) (omega (arith, count, i.counted))

    pub table-written : table_of slots first (set es k (Held s w)) ≡ with_object (table_of slots first es) (id_of s k) w
    table-written =
        table-with (set es k (Held s w)) k s w (omega (arith, within_held, few i)) (omega (arith, length-set es k (Held s w), few i)) (IsWith-set es k (Held s w) within_held) (ap (λ o. raised first o) here)
        (λ t. twice (nat_eq s t) (Some w) (Some x) None ∙ ap (λ o. cond (nat_eq s t) (Some w) (found t o)) (sym here))

  -- an object comes into a vacant slot, which leaves the heap
  module _ (r : Reverse ℕ) (s : ℕ) (here : slice_get es r.0 ≡ Some (Vacant s)) (x : X) where
    within_vacant : r.0 < length es
    within_vacant = slice_get_within es r.0 (Vacant s) here

    pub layout-filled : {rest : List (Reverse ℕ)} {len' capacity' : ℕ} → IsHeap lowest_first rest → IsPermutation free (r ∷ rest) → len' + 1 ≡ len → capacity' ≡ capacity
        → IsLayout slots first (set es r.0 (Held s x)) rest len' capacity'
    layout-filled {rest = rest} ordered moved less same =
        let size = length-set es r.0 (Held s x) in
        let count = count-set is_vacant es r.0 (Vacant s) (Held s x) here in
        layout-with i r.0 (Held s x) (IsWith-set es r.0 (Held s x) within_vacant) (omega (arith, size, i.within)) (omega (arith, size, i.room, same)) (i.each r.0 (Vacant s) here) ordered
        counts (omega (arith, count, i.counted, less))
      where
        counts : (q : ℕ) → count_of q rest ≡ cond (nat_eq r.0 q) 0 (count_of q free)
        counts q =
            let popped = count-popped r free rest moved q in
            by_eq r.0 q
            (λ e. let one : ◌≡◌ {A = ℕ} (cond (nat_eq r.0 q) 1 0) 1 = ap (λ b. cond b 1 0) (same_eq r.0 q e) in
            let all : ◌≡◌ {A = ℕ} (count_of q free) 1 = i.places q ∙ ap (λ n. cond (is_vacant_at (slice_get es n)) 1 0) (sym e) ∙ ap (λ o. cond (is_vacant_at o) 1 0) here in
            let none : ◌≡◌ {A = ℕ} (count_of q rest) 0 = omega (arith, popped, one, all) in
            none ∙ ap (λ b. cond b 0 (count_of q free)) (sym (same_eq r.0 q e)))
            (λ ne. let none : ◌≡◌ {A = ℕ} (cond (nat_eq r.0 q) 1 0) 0 = ap (λ b. cond b 1 0) (apart_eq r.0 q ne) in
            let same : count_of q rest ≡ count_of q free = omega (arith, popped, none) in
            same ∙ ap (λ b. cond b 0 (count_of q free)) (sym (apart_eq r.0 q ne)))

    pub table-filled : table_of slots first (set es r.0 (Held s x)) ≡ with_object (table_of slots first es) (id_of s r.0) x
    table-filled =
        table-with (set es r.0 (Held s x)) r.0 s x (omega (arith, within_vacant, few i)) (omega (arith, length-set es r.0 (Held s x), few i)) (IsWith-set es r.0 (Held s x) within_vacant) (ap (λ o. raised first o) here)
        (λ t. ap (λ o. cond (nat_eq s t) (Some x) o) (sym (cond_same (nat_eq s t) None) ∙ ap (λ o. found t o) (sym here)))

  -- an object comes into the next fresh slot
  module _ (x : X) where
    pub layout-pushed : {free' : List (Reverse ℕ)} {len' capacity' : ℕ} → length es < slots → free' ≡ free → len' ≡ len → length es + 1 ≤ capacity'
        → IsLayout slots first (es ++ Held first x ∷ []) free' len' capacity'
    layout-pushed {free' = free'} room same less more =
        let size = length_push es (Held first x) in
        let count = sum_by_push (λ e. cond (is_vacant e) 1 0) es (Held first x) in
        let past = slice_get_past es (length es) (omega arith) in
        layout-with i (length es) (Held first x) (IsWith-push es (Held first x)) (omega (arith, size, room)) (omega (arith, size, more)) (omega arith, i.small) (subst (λ f. IsHeap lowest_first f) (sym same) i.ordered)
        (λ q. ap (λ f. count_of q f) same ∙ counts_kept (length es) (Held first x) (ap (λ o. is_vacant_at o) past) q) (omega (arith, count, i.counted, less))

    pub table-pushed : length es < slots → table_of slots first (es ++ Held first x ∷ []) ≡ with_object (table_of slots first es) (id_of first (length es)) x
    table-pushed room =
        let past = slice_get_past es (length es) (omega arith) in
        table-with (es ++ Held first x ∷ []) (length es) first x (omega (arith, room, i.few)) (omega (arith, length_push es (Held first x), room, i.few)) (IsWith-push es (Held first x))
        (ap (λ o. raised first o) past ∙ ap (λ b. cond b (Some first) None) (sym (le-ltb first first (omega arith))))
        (λ t. ap (λ o. cond (nat_eq first t) (Some x) (found t o)) (sym past))

after_seq : (X : Type 0) (s : ℕ) → s < 65536 → seq_in {X = X} (slot_after s) ≡ s + 1
after_seq X s small =
    ⊎_elim
    (λ (t : nat_lt s 65535 ≡ true). ap (λ b. seq_in {X = X} (cond b (Vacant (s + 1)) Retired)) t)
    (λ (f : nat_lt s 65535 ≡ false). ap (λ b. seq_in {X = X} (cond b (Vacant (s + 1)) Retired)) f ∙ (let high = ltb-false s 65535 f in let last : 65536 ≡ s + 1 = omega arith in last))
    (cases_Bool (nat_lt s 65535))

after_held : (X : Type 0) (s : ℕ) → held_in {X = X} (slot_after s) ≡ None
after_held X s = at (nat_lt s 65535)
  where
    at : (b : Bool) → held_in {X = X} (cond b (Vacant (s + 1)) Retired) ≡ None
    at true = refl
    at false = refl

after_sound : (X : Type 0) (first s : ℕ) → first ≤ s → IsSoundSlot {X = X} first (slot_after s)
after_sound X first s low =
    ⊎_elim
    (λ (t : nat_lt s 65535 ≡ true). subst (λ b. IsSoundSlot {X = X} first (cond b (Vacant (s + 1)) Retired)) (sym t) (let high = ltb-true s 65535 t in (omega arith, omega arith)))
    (λ (f : nat_lt s 65535 ≡ false). subst (λ b. IsSoundSlot {X = X} first (cond b (Vacant (s + 1)) Retired)) (sym f) tt)
    (cases_Bool (nat_lt s 65535))

-- an object leaves its slot
module _ {X : Type 0} {slots first : ℕ} {es : List (Slot X)} {free : List (Reverse ℕ)} {len capacity : ℕ} (i : IsLayout slots first es free len capacity) (k s : ℕ) (x : X) (here : slice_get es k ≡ Some (Held s x)) where
  within_left : k < length es
  within_left = slice_get_within es k (Held s x) here

  bounds : (first ≤ s) × (s < 65536)
  bounds = i.each k (Held s x) here

  -- fewer slots are vacant than were used
  pub room_left : len < capacity
  room_left =
      let count = count-set is_vacant es k (Held s x) (Vacant s) here in
      omega (arith, count, i.counted, i.room, count_by-le-length is_vacant (set es k (Vacant s)), length-set es k (Vacant s))

  pub layout-retired : is_vacant {X = X} (slot_after s) ≡ false → IsLayout slots first (set es k (slot_after s)) free len capacity
  layout-retired gone =
      let size = length-set es k (slot_after s) in
      let count = count-set is_vacant es k (Held s x) (slot_after s) here in
      let none : ◌≡◌ {A = ℕ} (cond (is_vacant {X = X} (slot_after s)) 1 0) 0 = ap (λ b. cond b 1 0) gone in
      layout-with i k (slot_after s) (IsWith-set es k (slot_after s) within_left) (omega (arith, size, i.within)) (omega (arith, size, i.room)) (after_sound X first s bounds.0) i.ordered
      (counts_kept i k (slot_after s) (ap (λ o. is_vacant_at o) here ∙ sym gone)) (omega (arith, count, none, i.counted))

  pub layout-vacated : {free' : List (Reverse ℕ)} {len' capacity' : ℕ} (r : Reverse ℕ) → r.0 ≡ k → is_vacant {X = X} (slot_after s) ≡ true → IsHeap lowest_first free' → IsPermutation (r ∷ free) free' → len' ≡ len + 1 → capacity ≤ capacity'
      → IsLayout slots first (set es k (slot_after s)) free' len' capacity'
  layout-vacated {free' = free'} r place stays ordered moved more same =
      let size = length-set es k (slot_after s) in
      let count = count-set is_vacant es k (Held s x) (slot_after s) here in
      let one : ◌≡◌ {A = ℕ} (cond (is_vacant {X = X} (slot_after s)) 1 0) 1 = ap (λ b. cond b 1 0) stays in
      layout-with i k (slot_after s) (IsWith-set es k (slot_after s) within_left) (omega (arith, size, i.within)) (omega (arith, size, i.room, same)) (after_sound X first s bounds.0) ordered
      (λ q. counts q ∙ ap (λ n. cond (nat_eq k q) n (count_of q free)) (sym one)) (omega (arith, count, one, i.counted, more))
    where
      counts : (q : ℕ) → count_of q free' ≡ cond (nat_eq k q) 1 (count_of q free)
      counts q =
          let pushed = count-pushed r free free' moved q in
          by_eq k q
          (λ e. let one : ◌≡◌ {A = ℕ} (cond (nat_eq r.0 q) 1 0) 1 = ap (λ b. cond b 1 0) (same_eq r.0 q (place ∙ e)) in
          let none : ◌≡◌ {A = ℕ} (count_of q free) 0 = i.places q ∙ ap (λ n. cond (is_vacant_at (slice_get es n)) 1 0) (sym e) ∙ ap (λ o. cond (is_vacant_at o) 1 0) here in
          let all : ◌≡◌ {A = ℕ} (count_of q free') 1 = omega (arith, pushed, one, none) in
          all ∙ ap (λ b. cond b 1 (count_of q free)) (sym (same_eq k q e)))
          (λ ne. let none : ◌≡◌ {A = ℕ} (cond (nat_eq r.0 q) 1 0) 0 = ap (λ b. cond b 1 0) (apart_eq r.0 q (λ e. ne (sym place ∙ e))) in
          let same : count_of q free' ≡ count_of q free = omega (arith, pushed, none) in
          same ∙ ap (λ b. cond b 1 (count_of q free)) (sym (apart_eq k q ne)))

  pub table-vacated : (id : ℕ) → k ≡ id % 32768 → s ≡ id / 32768 → table_of slots first (set es k (slot_after s)) ≡ without_object (table_of slots first es) id
  table-vacated id slot seq =
      let fs = set es k (slot_after s) in
      let is = IsWith-set es k (slot_after s) within_left in
      let whole : id_of s k ≡ id = (λ j. id_of (seq j) (slot j)) ∙ sym (whole_id id) in
      same_table slots first es fs (map.insert (seqs_from first 0 es) (id % 32768) (id / 32768 + 1)) (map.remove (objects_from 0 es) id)
      (seqs_with es fs k (slot_after s) is first (Some (s + 1)) (map.insert (seqs_from first 0 es) (id % 32768) (id / 32768 + 1))
      (λ q. get-inserted (seqs_from first 0 es) (id % 32768) (id / 32768 + 1) q ∙ ap (λ n. cond (nat_eq n q) (Some (id / 32768 + 1)) (map.get (seqs_from first 0 es) q)) (sym slot) ∙ ap (λ n. cond (nat_eq k q) (Some (n + 1)) (map.get (seqs_from first 0 es) q)) (sym seq))
      (ap (λ n. cond (nat_lt first n) (Some n) None) (after_seq X s bounds.1) ∙ ap (λ b. cond b (Some (s + 1)) None) (lt-ltb first (s + 1) (omega (arith, bounds.0)))))
      (objects_with es fs k (slot_after s) is s None (map.remove (objects_from 0 es) id) (omega (arith, within_left, few i)) (few i) (omega (arith, length-set es k (slot_after s), few i))
      (λ q. get-removed (objects_from 0 es) id q ∙ ap (λ n. cond (nat_eq n q) None (map.get (objects_from 0 es) q)) (sym whole))
      (λ t. ap (λ o. cond (nat_eq (seq_in {X = X} (slot_after s)) t) o None) (after_held X s) ∙ cond_same (nat_eq (seq_in {X = X} (slot_after s)) t) None
      ∙ sym (cond_same (nat_eq s t) None) ∙ twice (nat_eq s t) None (Some x) None ∙ ap (λ o. cond (nat_eq s t) None (found t o)) (sym here)))

some_copied : {X : Type 0} (r : Option (Bor X)) → is_some r ≡ true → IsSome (option_copied r)
some_copied None h = absurd (true≢false (sym h))
some_copied (Some x) h = refl

pub ok_then : {T E P : Type 0} (r : Result T E) → is_ok r ≡ true → OnOk r P → P
ok_then (Ok x) h p = p
ok_then (Err e) h p = absurd (true≢false (sym h))

-- the table has this object at the identifier, and so its slot holds it
pub record IsHeldAt {X : Type 0} (es : List (Slot X)) (t : Table X) (id : ℕ) (x : X) : Type 0 where
  pub got : map.get t.objects id ≡ Some x
  pub here : slice_get es (id % 32768) ≡ Some (Held (id / 32768) x)

module _ {X : Type 0} {slots first : ℕ} {es : List (Slot X)} {free : List (Reverse ℕ)} {len capacity : ℕ} (i : IsLayout slots first es free len capacity) (t : Table X) (id : ℕ) (view : table_of slots first es ≡ t) where
  pub held_object : IsSome (map.get t.objects id) → (x : X) × IsHeldAt es t id x
  held_object some =
      let got = some_of (map.get t.objects id) some in
      (got.0, record { got = got.1; here = held_by_id es id got.0 (few i) (ap (λ (t : Table X). map.get t.objects id) view ∙ got.1) })

  pub found_object : (r : Option (Bor X)) → is_some r ≡ true → option_copied r ≡ map.get t.objects id → (x : X) × IsHeldAt es t id x
  found_object r some is = held_object (ap (λ o. is_some o) (sym is) ∙ some_copied r some)

module _ {X : Type 0} {es : List (Slot X)} {t : Table X} {id : ℕ} {x : X} (held : IsHeldAt es t id x) (n : ℕ) (place : n ≡ id % 32768) where
  pub held_place : n < length es
  held_place = omega (arith, place, slice_get_within es (id % 32768) (Held (id / 32768) x) held.here)

  pub held_entry : (e : Slot X) → e ≡ get_or es n e → e ≡ Held (id / 32768) x
  held_entry e is = is ∙ ap (λ k. get_or es k e) place ∙ get_or_from_slice_get es (id % 32768) (Held (id / 32768) x) e held.here
