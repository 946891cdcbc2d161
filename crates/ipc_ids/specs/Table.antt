-- The objects of one kind, by identifier.
use Rattle.std.specs.Prelude.{◌≡◌, ℕ, zero, suc, ◌+◌, ◌*◌, ◌/◌, ◌%◌, ◌<◌, ◌≤◌, nat_lt, ◌⊎◌}
use Rattle.std.specs.Prelude.{Bool, true, false, not, ◌&&◌}
use Rattle.std.specs.Prelude.{Option, Some, None, is_none, unwrap_or, option_map, option_and_then, if◌then◌else◌}
use Rattle.std.specs.Prelude.{List, filter_map}
use Rattle.std.specs.List.{range_with_len}
use Rattle.std.specs.Ordering.{nat_cmp}
use Rattle.std.specs.FinMap as map

-- how many slots there are, the sequence number of a fresh one, that of each slot that isn't fresh
-- (65536: retired), and the objects by identifier
pub record Table (X : Type 0) : Type 0 where
  pub slots : ℕ
  pub first_seq : ℕ
  pub seqs : map.FinMap nat_cmp ℕ
  pub objects : map.FinMap nat_cmp X

-- the least of `left` numbers from a start that passes
abbrev pub least_from : (ℕ → Bool) → ℕ → ℕ → Option ℕ
least_from test zero start = None
least_from test (suc left) start = if test start then Some start else least_from test left (start + 1)

-- an identifier is its sequence number times 32768, plus its slot
abbrev pub id_of : ℕ → ℕ → ℕ
id_of seq slot = seq * 32768 + slot

-- no object yet
abbrev pub empty_table : {X : Type 0} → ℕ → ℕ → Table X
empty_table slots first_seq = record { slots = slots; first_seq = first_seq; seqs = map.empty; objects = map.empty }

abbrev pub seq_of : {X : Type 0} → Table X → ℕ → ℕ
seq_of t slot = unwrap_or (map.get t.seqs slot) t.first_seq

-- the identifier that an object in the slot has or would get
abbrev pub id_at : {X : Type 0} → Table X → ℕ → ℕ
id_at t slot = id_of (seq_of t slot) slot

abbrev pub object_at : {X : Type 0} → Table X → ℕ → Option X
object_at t slot = map.get t.objects (id_at t slot)

abbrev pub is_retired : {X : Type 0} → Table X → ℕ → Bool
is_retired t slot = nat_lt 65535 (seq_of t slot)

abbrev pub is_usable : {X : Type 0} → Table X → ℕ → Bool
is_usable t slot = not (is_retired t slot) && is_none (object_at t slot)

-- the identifier of the next new object: the lowest usable slot is taken
abbrev pub next_id : {X : Type 0} → Table X → Option ℕ
next_id t = option_map (λ slot. id_at t slot) (least_from (λ slot. is_usable t slot) t.slots 0)

-- the identifier of the object in the slot
abbrev pub id_in : {X : Type 0} → Table X → ℕ → Option ℕ
id_in t slot = if nat_lt slot t.slots then option_map (λ x. id_at t slot) (object_at t slot) else None

-- the identifiers of the objects, by rising slot
unfoldable pub ids_of : {X : Type 0} → Table X → List ℕ
ids_of t = filter_map (λ slot. id_in t slot) (range_with_len 0 t.slots)

-- some object passes in this slot
abbrev pub holds_at : {X : Type 0} → (X → Bool) → Table X → ℕ → Bool
holds_at test t slot = unwrap_or (option_map test (object_at t slot)) false

-- the object that passes, with its identifier: the one in the lowest slot
abbrev pub find_object : {X : Type 0} → (X → Bool) → Table X → Option (ℕ × X)
find_object test t =
    option_and_then (λ slot. option_map (λ x. (id_at t slot, x)) (object_at t slot))
    (least_from (λ slot. holds_at test t slot) t.slots 0)

-- the object comes to the identifier, in place of the one that may be there
abbrev pub with_object : {X : Type 0} → Table X → ℕ → X → Table X
with_object t id x = record t { objects = map.insert t.objects id x }

-- the object of the identifier leaves, and the sequence number of its slot goes up by one
abbrev pub without_object : {X : Type 0} → Table X → ℕ → Table X
without_object t id = record t {
  seqs = map.insert t.seqs (id % 32768) (id / 32768 + 1);
  objects = map.remove t.objects id;
}

-- what is true of each table that such changes lead to: each object is in one of the slots, which isn't retired,
-- and has the sequence number of that slot
pub record IsSound {X : Type 0} (t : Table X) : Type 0 where
  pub few : t.slots ≤ 32768
  pub held : (id : ℕ) (x : X) → map.get t.objects id ≡ Some x
      → (id % 32768 < t.slots) × (id / 32768 ≤ 65535) × (seq_of t (id % 32768) ≡ id / 32768)

-- the identifier names an object now, or named one that was removed
abbrev pub WasUsed : {X : Type 0} → Table X → ℕ → Type 0
WasUsed t id = (map.contains_key t.objects id ≡ true) ⊎ (id / 32768 < seq_of t (id % 32768))
