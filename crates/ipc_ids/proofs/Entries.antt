-- The finite maps that a list of slots stands for.
use Rattle.std.proofs.Common.{◌≡◌, ℕ, zero, suc, ◌+◌, ◌/◌, ◌%◌, ◌<◌, ◌≤◌, Bool, true, false, cond, List, [], ◌∷◌, length, refl, sym, ap, ◌∙◌, arith, Option, Some, None, zero-add}
use Rattle.std.specs.Prelude.{nat_eq, nat_lt, ◌&&◌, slice_get}
use Rattle.std.specs.Ordering.{nat_cmp}
use Rattle.std.specs.FinMap as map
use Rattle.ipc_ids.specs.Table.{id_of, empty_table}
use Rattle.ipc_ids.specs.Slots.{seq_in, held_in, object_of, seqs_from, put_some, objects_from, table_of}
use Rattle.ipc_ids.specs.declared.slots.Slot.{Slot}
use Rattle.ipc_ids.proofs.Ids.{get-inserted, same_maps, cond_same}
use Rattle.ipc_ids.proofs.Identifiers.{same_eq, apart_eq, by_eq, whole_id, slot_below, same_id, other_id}
use Rattle.ipc_ids.proofs.Places.{IsWith}

-- what the map of sequence numbers has for a slot
abbrev pub raised : {X : Type 0} → ℕ → Option (Slot X) → Option ℕ
raised first None = None
raised first (Some e) = cond (nat_lt first (seq_in e)) (Some (seq_in e)) None

-- the object of a slot, where that has this sequence number
abbrev pub found : {X : Type 0} → ℕ → Option (Slot X) → Option X
found seq None = None
found seq (Some e) = object_of seq e

get-put_if : {X : Type 0} (b : Bool) (m : map.FinMap nat_cmp X) (k : ℕ) (v : X) (q : ℕ) → map.get (cond b (map.insert m k v) m) q ≡ cond (b && nat_eq k q) (Some v) (map.get m q)
get-put_if true m k v q = get-inserted m k v q
get-put_if false m k v q = refl

and_true : {A : Type 0} (b : Bool) (x y : A) → cond (b && true) x y ≡ cond b x y
and_true true x y = refl
and_true false x y = refl

and_false : {A : Type 0} (b : Bool) (x y : A) → cond (b && false) x y ≡ y
and_false true x y = refl
and_false false x y = refl

get-put_other : {X : Type 0} (m : map.FinMap nat_cmp X) (k q : ℕ) (o : Option X) → nat_eq k q ≡ false → map.get (put_some m k o) q ≡ map.get m q
get-put_other m k q None apart = refl
get-put_other m k q (Some x) apart = get-inserted m k x q ∙ ap (λ b. cond b (Some x) (map.get m q)) apart

get-put_here : {X : Type 0} (m : map.FinMap nat_cmp X) (k q : ℕ) (o : Option X) (b : Bool) → nat_eq k q ≡ b → map.get m q ≡ None → map.get (put_some m k o) q ≡ cond b o None
get-put_here m k q None b same none = none ∙ sym (cond_same b None)
get-put_here m k q (Some x) b same none = get-inserted m k x q ∙ ap (λ c. cond c (Some x) (map.get m q)) same ∙ ap (λ o. cond b (Some x) o) none

seqs_before : {X : Type 0} (first : ℕ) (es : List (Slot X)) (slot q : ℕ) → q < slot → map.get (seqs_from first slot es) q ≡ None
unfolding seqs_from
seqs_before first [] slot q h = map.get-empty nat_cmp q
seqs_before first (e ∷ es) slot q h =
    let m = seqs_from first (slot + 1) es in
    get-put_if (nat_lt first (seq_in e)) m slot (seq_in e) q
    ∙ ap (λ b. cond (nat_lt first (seq_in e) && b) (Some (seq_in e)) (map.get m q)) (apart_eq slot q (λ same. absurd (omega arith)))
    ∙ and_false (nat_lt first (seq_in e)) (Some (seq_in e)) (map.get m q)
    ∙ seqs_before first es (slot + 1) q (omega arith)

seqs_on : {X : Type 0} (first : ℕ) (es : List (Slot X)) (slot j : ℕ) → map.get (seqs_from first slot es) (slot + j) ≡ raised first (slice_get es j)
unfolding seqs_from
seqs_on first [] slot j = map.get-empty nat_cmp (slot + j)
seqs_on first (e ∷ es) slot zero =
    let m = seqs_from first (slot + 1) es in
    get-put_if (nat_lt first (seq_in e)) m slot (seq_in e) (slot + 0)
    ∙ ap (λ b. cond (nat_lt first (seq_in e) && b) (Some (seq_in e)) (map.get m (slot + 0))) (same_eq slot (slot + 0) (omega arith))
    ∙ and_true (nat_lt first (seq_in e)) (Some (seq_in e)) (map.get m (slot + 0))
    ∙ ap (λ o. cond (nat_lt first (seq_in e)) (Some (seq_in e)) o) (seqs_before first es (slot + 1) (slot + 0) (omega arith))
seqs_on first (e ∷ es) slot (suc j) =
    let m = seqs_from first (slot + 1) es in
    let later : slot + suc j ≡ (slot + 1) + j = omega arith in
    get-put_if (nat_lt first (seq_in e)) m slot (seq_in e) (slot + suc j)
    ∙ ap (λ b. cond (nat_lt first (seq_in e) && b) (Some (seq_in e)) (map.get m (slot + suc j))) (apart_eq slot (slot + suc j) (λ same. absurd (omega arith)))
    ∙ and_false (nat_lt first (seq_in e)) (Some (seq_in e)) (map.get m (slot + suc j))
    ∙ ap (λ n. map.get m n) later
    ∙ seqs_on first es (slot + 1) j

pub get-seqs : {X : Type 0} (first : ℕ) (es : List (Slot X)) (q : ℕ) → map.get (seqs_from first 0 es) q ≡ raised first (slice_get es q)
get-seqs first es q = ap (λ n. map.get (seqs_from first 0 es) n) (sym (zero-add q)) ∙ seqs_on first es 0 q

objects_before : {X : Type 0} (es : List (Slot X)) (slot s q : ℕ) → q < slot → slot + length es ≤ 32768 → map.get (objects_from slot es) (id_of s q) ≡ None
unfolding objects_from
objects_before [] slot s q h few = map.get-empty nat_cmp (id_of s q)
objects_before (e ∷ es) slot s q h few =
    let room : slot + suc (length es) ≤ 32768 = few in
    get-put_other (objects_from (slot + 1) es) (id_of (seq_in e) slot) (id_of s q) (held_in e) (other_id (seq_in e) s slot q (omega arith) (omega arith) (λ same. absurd (omega arith)))
    ∙ objects_before es (slot + 1) s q (omega arith) (omega arith)

objects_on : {X : Type 0} (es : List (Slot X)) (slot s j : ℕ) → slot + length es ≤ 32768 → slot + j < 32768 → map.get (objects_from slot es) (id_of s (slot + j)) ≡ found s (slice_get es j)
unfolding objects_from
objects_on [] slot s j few h = map.get-empty nat_cmp (id_of s (slot + j))
objects_on (e ∷ es) slot s zero few h =
    let room : slot + suc (length es) ≤ 32768 = few in
    let here : slot + 0 ≡ slot = omega arith in
    ap (λ n. map.get (put_some (objects_from (slot + 1) es) (id_of (seq_in e) slot) (held_in e)) (id_of s n)) here
    ∙ get-put_here (objects_from (slot + 1) es) (id_of (seq_in e) slot) (id_of s slot) (held_in e) (nat_eq (seq_in e) s) (same_id (seq_in e) s slot (omega arith))
    (objects_before es (slot + 1) s slot (omega arith) (omega arith))
objects_on (e ∷ es) slot s (suc j) few h =
    let room : slot + suc (length es) ≤ 32768 = few in
    let later : slot + suc j ≡ (slot + 1) + j = omega arith in
    get-put_other (objects_from (slot + 1) es) (id_of (seq_in e) slot) (id_of s (slot + suc j)) (held_in e) (other_id (seq_in e) s slot (slot + suc j) (omega arith) h (λ same. absurd (omega arith)))
    ∙ ap (λ n. map.get (objects_from (slot + 1) es) (id_of s n)) later
    ∙ objects_on es (slot + 1) s j (omega arith) (omega arith)

pub get-objects : {X : Type 0} (es : List (Slot X)) (s q : ℕ) → length es ≤ 32768 → q < 32768 → map.get (objects_from 0 es) (id_of s q) ≡ found s (slice_get es q)
get-objects es s q few h = ap (λ n. map.get (objects_from 0 es) (id_of s n)) (sym (zero-add q)) ∙ objects_on es 0 s q (omega arith) (omega arith)

pub get-objects_by_id : {X : Type 0} (es : List (Slot X)) (id : ℕ) → length es ≤ 32768 → map.get (objects_from 0 es) id ≡ found (id / 32768) (slice_get es (id % 32768))
get-objects_by_id es id few = ap (λ n. map.get (objects_from 0 es) n) (whole_id id) ∙ get-objects es (id / 32768) (id % 32768) few (slot_below id)

-- one slot changes, and so the maps at that slot
module _ {X : Type 0} (es fs : List (Slot X)) (k : ℕ) (e : Slot X) (is : IsWith es k e fs) where
  pub objects_with : (s : ℕ) (o : Option X) (m : map.FinMap nat_cmp X) → k < 32768 → length es ≤ 32768 → length fs ≤ 32768
      → ((q : ℕ) → map.get m q ≡ cond (nat_eq (id_of s k) q) o (map.get (objects_from 0 es) q))
      → ((t : ℕ) → object_of t e ≡ cond (nat_eq s t) o (found t (slice_get es k))) → objects_from 0 fs ≡ m
  objects_with s o m below few few' has change = same_maps (objects_from 0 fs) m (λ q. at q (q / 32768) (q % 32768) (whole_id q) (slot_below q))
    where
      at : (q t p : ℕ) → q ≡ id_of t p → p < 32768 → map.get (objects_from 0 fs) q ≡ map.get m q
      at q t p same h =
          ap (λ n. map.get (objects_from 0 fs) n) same ∙ get-objects fs t p few' h ∙ ap (λ o. found t o) (is p)
          ∙ by_eq k p
          (λ here. ap (λ b. found t (cond b (Some e) (slice_get es p))) (same_eq k p here) ∙ change t
          ∙ ap (λ n. cond (nat_eq s t) o (found t (slice_get es n))) here
          ∙ ap (λ b. cond b o (found t (slice_get es p))) (sym (ap (λ n. nat_eq (id_of s n) (id_of t p)) here ∙ same_id s t p h)))
          (λ apart. ap (λ b. found t (cond b (Some e) (slice_get es p))) (apart_eq k p apart)
          ∙ ap (λ b. cond b o (found t (slice_get es p))) (sym (other_id s t k p below h apart)))
          ∙ ap (λ x. cond (nat_eq (id_of s k) (id_of t p)) o x) (sym (get-objects es t p few h))
          ∙ sym (has (id_of t p)) ∙ ap (λ n. map.get m n) (sym same)

  pub seqs_with : (first : ℕ) (o : Option ℕ) (m : map.FinMap nat_cmp ℕ) → ((q : ℕ) → map.get m q ≡ cond (nat_eq k q) o (map.get (seqs_from first 0 es) q))
      → raised first (Some e) ≡ o → seqs_from first 0 fs ≡ m
  seqs_with first o m has change =
      same_maps (seqs_from first 0 fs) m (λ q.
      get-seqs first fs q ∙ ap (λ o. raised first o) (is q)
      ∙ by_eq k q
      (λ here. ap (λ b. raised first (cond b (Some e) (slice_get es q))) (same_eq k q here) ∙ change
      ∙ ap (λ b. cond b o (raised first (slice_get es q))) (sym (same_eq k q here)))
      (λ apart. ap (λ b. raised first (cond b (Some e) (slice_get es q))) (apart_eq k q apart)
      ∙ ap (λ b. cond b o (raised first (slice_get es q))) (sym (apart_eq k q apart)))
      ∙ ap (λ x. cond (nat_eq k q) o x) (sym (get-seqs first es q)) ∙ sym (has q))

  pub seqs_same : (first : ℕ) → raised first (Some e) ≡ raised first (slice_get es k) → seqs_from first 0 fs ≡ seqs_from first 0 es
  seqs_same first change =
      seqs_with first (raised first (slice_get es k)) (seqs_from first 0 es)
      (λ q. by_eq k q
      (λ here. get-seqs first es q ∙ ap (λ n. raised first (slice_get es n)) (sym here)
      ∙ ap (λ b. cond b (raised first (slice_get es k)) (map.get (seqs_from first 0 es) q)) (sym (same_eq k q here)))
      (λ apart. ap (λ b. cond b (raised first (slice_get es k)) (map.get (seqs_from first 0 es) q)) (sym (apart_eq k q apart))))
      change

pub table-empty : {X : Type 0} (slots first : ℕ) (es : List (Slot X)) → es ≡ [] → table_of slots first es ≡ empty_table slots first
unfolding seqs_from objects_from
table-empty slots first es none = ap (λ es. table_of slots first es) none
