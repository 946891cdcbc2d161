-- What a table says of its slots.
use Rattle.std.proofs.Common.{◌≡◌, ℕ, ◌<◌, ◌≤◌, Bool, true, false, cond, List, length, get_or, refl, sym, ap, ◌∙◌, arith, Option, Some, None, ⊎_elim}
use Rattle.std.specs.Prelude.{nat_lt, not, ◌&&◌, is_none, slice_get, option_map, unwrap_or, if◌then◌else◌}
use Rattle.std.specs.FinMap as map
use Rattle.std.specs.declared.cmp.Reverse.{Reverse}
use Rattle.std.proofs.lemmas.Bool.{cases_Bool, cases_lt, ltb-false, lt-ltb, le-ltb}
use Rattle.std.proofs.lemmas.Option.{slice_get_past, slice_get_within, slice_get-get_or, none-some}
use Rattle.ipc_ids.specs.Table.{id_of, seq_of, id_at, id_in, object_at, is_retired, is_usable, next_id}
use Rattle.ipc_ids.specs.Slots.{seq_in, held_in, held_seq, is_vacant, is_never_used, objects_from, table_of, IsSoundSlot, is_vacant_at, IsLayout}
use Rattle.ipc_ids.specs.declared.slots.Slot.{Slot}
use Rattle.ipc_ids.specs.declared.slots.Slot.TheVariants.{Held, Vacant, Retired}
use Rattle.ipc_ids.proofs.Identifiers.{same_eq}
use Rattle.ipc_ids.proofs.Entries.{raised, found, get-seqs, get-objects}
use Rattle.ipc_ids.proofs.Least.{least_none, least_some}

abbrev pub seq_at : {X : Type 0} → ℕ → Option (Slot X) → ℕ
seq_at first None = first
seq_at first (Some e) = seq_in e

abbrev pub held_at : {X : Type 0} → Option (Slot X) → Option X
held_at None = None
held_at (Some e) = held_in e

abbrev pub retired_at : {X : Type 0} → Option (Slot X) → Bool
retired_at None = false
retired_at (Some e) = is_never_used e

abbrev pub held_seq_at : {X : Type 0} → Option (Slot X) → Option ℕ
held_seq_at None = None
held_seq_at (Some e) = held_seq e

abbrev pub usable_at : {X : Type 0} → Option (Slot X) → Bool
usable_at None = true
usable_at (Some e) = is_vacant e

abbrev pub IsSoundAt : {X : Type 0} → ℕ → Option (Slot X) → Type 0
IsSoundAt {X} first o = (e : Slot X) → o ≡ Some e → IsSoundSlot first e

not_lower : {X : Type 0} (first : ℕ) (e : Slot X) → first < 65536 → IsSoundSlot first e → first ≤ seq_in e
not_lower first (Held seq x) small sound = sound.0
not_lower first (Vacant seq) small sound = sound.0
not_lower first Retired small sound = omega arith

pub seq-raised : {X : Type 0} (first : ℕ) (o : Option (Slot X)) → first < 65536 → IsSoundAt first o → unwrap_or (raised first o) first ≡ seq_at first o
seq-raised first None small sound = refl
seq-raised first (Some e) small sound =
    ⊎_elim
    (λ (t : nat_lt first (seq_in e) ≡ true). ap (λ b. unwrap_or (cond b (Some (seq_in e)) None) first) t)
    (λ (f : nat_lt first (seq_in e) ≡ false). ap (λ b. unwrap_or (cond b (Some (seq_in e)) None) first) f
    ∙ (let low = not_lower first e small (sound e refl) in let high = ltb-false first (seq_in e) f in let same : first ≡ seq_in e = omega arith in same))
    (cases_Bool (nat_lt first (seq_in e)))

found-own : {X : Type 0} (first : ℕ) (o : Option (Slot X)) → found (seq_at first o) o ≡ held_at o
found-own first None = refl
found-own first (Some e) = ap (λ b. cond b (held_in e) None) (same_eq (seq_in e) (seq_in e) refl)

retired-seq : {X : Type 0} (first : ℕ) (o : Option (Slot X)) → first < 65536 → IsSoundAt first o → nat_lt 65535 (seq_at first o) ≡ retired_at o
retired-seq first None small sound = le-ltb 65535 first (omega arith)
retired-seq first (Some (Held seq x)) small sound = let s = sound (Held seq x) refl in le-ltb 65535 seq (omega (arith, s.1))
retired-seq first (Some (Vacant seq)) small sound = let s = sound (Vacant seq) refl in le-ltb 65535 seq (omega (arith, s.1))
retired-seq first (Some Retired) small sound = refl

usable-parts : {X : Type 0} (o : Option (Slot X)) → not (retired_at o) && is_none (held_at o) ≡ usable_at o
usable-parts None = refl
usable-parts (Some (Held seq x)) = refl
usable-parts (Some (Vacant seq)) = refl
usable-parts (Some Retired) = refl

module _ {X : Type 0} {slots first : ℕ} {es : List (Slot X)} {free : List (Reverse ℕ)} {len capacity : ℕ} (i : IsLayout slots first es free len capacity) where
  sound_at : (q : ℕ) → IsSoundAt first (slice_get es q)
  sound_at q e is = i.each q e is

  pub few : length es ≤ 32768
  few = omega (arith, i.few, i.within)

  pub seq_of-table : (q : ℕ) → seq_of (table_of slots first es) q ≡ seq_at first (slice_get es q)
  seq_of-table q = ap (λ o. unwrap_or o first) (get-seqs first es q) ∙ seq-raised first (slice_get es q) i.small (sound_at q)

  pub id_at-table : (q : ℕ) → id_at (table_of slots first es) q ≡ id_of (seq_at first (slice_get es q)) q
  id_at-table q = ap (λ n. id_of n q) (seq_of-table q)

  pub object_at-table : (q : ℕ) → q < 32768 → object_at (table_of slots first es) q ≡ held_at (slice_get es q)
  object_at-table q h = ap (λ n. map.get (objects_from 0 es) n) (id_at-table q) ∙ get-objects es (seq_at first (slice_get es q)) q few h ∙ found-own first (slice_get es q)

  pub is_retired-table : (q : ℕ) → is_retired (table_of slots first es) q ≡ retired_at (slice_get es q)
  is_retired-table q = ap (λ n. nat_lt 65535 n) (seq_of-table q) ∙ retired-seq first (slice_get es q) i.small (sound_at q)

  is_usable-table : (q : ℕ) → q < 32768 → is_usable (table_of slots first es) q ≡ usable_at (slice_get es q)
  is_usable-table q h =
      ap (λ b. not b && is_none (object_at (table_of slots first es) q)) (is_retired-table q)
      ∙ ap (λ o. not (retired_at (slice_get es q)) && is_none o) (object_at-table q h)
      ∙ usable-parts (slice_get es q)

  id_in-some : (q seq : ℕ) (x : X) → slice_get es q ≡ Some (Held seq x) → id_in (table_of slots first es) q ≡ Some (id_of seq q)
  id_in-some q seq x is =
      let within = slice_get_within es q (Held seq x) is in
      ap (λ b. if b then option_map (λ x. id_at (table_of slots first es) q) (object_at (table_of slots first es) q) else None) (lt-ltb q slots (omega (arith, i.within, within)))
      ∙ ap (λ o. option_map (λ x. id_at (table_of slots first es) q) o) (object_at-table q (omega (arith, i.within, i.few, within)) ∙ ap (λ o. held_at o) is)
      ∙ ap (λ n. Some n) (id_at-table q ∙ ap (λ o. id_of (seq_at first o) q) is)

  id_in-none : (q : ℕ) → held_at (slice_get es q) ≡ None → id_in (table_of slots first es) q ≡ None
  id_in-none q none =
      ⊎_elim
      (λ (h : q < slots). ap (λ b. if b then option_map (λ x. id_at (table_of slots first es) q) (object_at (table_of slots first es) q) else None) (lt-ltb q slots h)
      ∙ ap (λ o. option_map (λ x. id_at (table_of slots first es) q) o) (object_at-table q (omega (arith, i.few)) ∙ none))
      (λ (h : slots ≤ q). ap (λ b. if b then option_map (λ x. id_at (table_of slots first es) q) (object_at (table_of slots first es) q) else None) (le-ltb q slots h))
      (cases_lt q slots)

  pub id_in-table : (q : ℕ) → id_in (table_of slots first es) q ≡ option_map (λ seq. id_of seq q) (held_seq_at (slice_get es q))
  id_in-table q = at (slice_get es q) refl
    where
      at : (o : Option (Slot X)) → slice_get es q ≡ o → id_in (table_of slots first es) q ≡ option_map (λ seq. id_of seq q) (held_seq_at (slice_get es q))
      at None is = id_in-none q (ap (λ o. held_at o) is) ∙ ap (λ o. option_map (λ seq. id_of seq q) (held_seq_at o)) (sym is)
      at (Some (Held seq x)) is = id_in-some q seq x is ∙ ap (λ o. option_map (λ seq. id_of seq q) (held_seq_at o)) (sym is)
      at (Some (Vacant seq)) is = id_in-none q (ap (λ o. held_at o) is) ∙ ap (λ o. option_map (λ seq. id_of seq q) (held_seq_at o)) (sym is)
      at (Some Retired) is = id_in-none q (ap (λ o. held_at o) is) ∙ ap (λ o. option_map (λ seq. id_of seq q) (held_seq_at o)) (sym is)

  no_vacant : (o : Option (Slot X)) → (e : Slot X) → o ≡ Some e → is_vacant_at o ≡ false → usable_at o ≡ false
  no_vacant o e is none = ap (λ o. usable_at o) is ∙ ap (λ o. is_vacant_at o) (sym is) ∙ none

  used : (j : ℕ) → j < length es → is_vacant_at (slice_get es j) ≡ false → is_usable (table_of slots first es) j ≡ false
  used j h none = is_usable-table j (omega (arith, i.few, i.within)) ∙ at (slice_get es j) refl
    where
      at : (o : Option (Slot X)) → slice_get es j ≡ o → usable_at (slice_get es j) ≡ false
      at None is = absurd (missing is)
        where
          missing : slice_get es j ≡ None → ⊥
          missing e = none-some (get_or es j Retired) (sym e ∙ slice_get-get_or es j Retired h)
      at (Some e) is = no_vacant (slice_get es j) e is none

  pub next_id-freed : (k seq : ℕ) → slice_get es k ≡ Some (Vacant seq) → ((j : ℕ) → j < k → is_vacant_at (slice_get es j) ≡ false) → next_id (table_of slots first es) ≡ Some (id_of seq k)
  next_id-freed k seq is before =
      let within = slice_get_within es k (Vacant seq) is in
      ap (λ o. option_map (λ slot. id_at (table_of slots first es) slot) o)
      (least_some (λ slot. is_usable (table_of slots first es) slot) slots 0 k (omega arith) (omega (arith, i.within, within))
      (λ j a b. used j (omega arith) (before j b))
      (is_usable-table k (omega (arith, i.few, i.within, within)) ∙ ap (λ o. usable_at o) is))
      ∙ ap (λ n. Some n) (id_at-table k ∙ ap (λ o. id_of (seq_at first o) k) is)

  pub next_id-fresh : length es < slots → ((j : ℕ) → is_vacant_at (slice_get es j) ≡ false) → next_id (table_of slots first es) ≡ Some (id_of first (length es))
  next_id-fresh room none =
      let past = slice_get_past es (length es) (omega arith) in
      ap (λ o. option_map (λ slot. id_at (table_of slots first es) slot) o)
      (least_some (λ slot. is_usable (table_of slots first es) slot) slots 0 (length es) (omega arith) (omega arith)
      (λ j a b. used j b (none j))
      (is_usable-table (length es) (omega (arith, i.few)) ∙ ap (λ o. usable_at o) past))
      ∙ ap (λ n. Some n) (id_at-table (length es) ∙ ap (λ o. id_of (seq_at first o) (length es)) past)

  pub next_id-full : slots ≤ length es → ((j : ℕ) → is_vacant_at (slice_get es j) ≡ false) → next_id (table_of slots first es) ≡ None
  next_id-full full none =
      ap (λ o. option_map (λ slot. id_at (table_of slots first es) slot) o)
      (least_none (λ slot. is_usable (table_of slots first es) slot) slots 0 (λ j a b. used j (omega arith) (none j)))
