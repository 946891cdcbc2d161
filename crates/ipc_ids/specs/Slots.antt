-- How a table lays out its slots. No public clause cites this module.
use Rattle.std.specs.Prelude.{◌≡◌, ℕ, ◌+◌, ◌<◌, ◌≤◌, nat_lt, nat_eq, Bool, true, false, cond, ⊤}
use Rattle.std.specs.Prelude.{List, [], ◌∷◌, length, count_by, slice_get, Option, Some, None}
use Rattle.std.specs.declared.cmp.Ordering.{Ordering}
use Rattle.std.specs.Ordering.{nat_cmp}
use Rattle.std.specs.BinaryHeap.{IsHeap}
use Rattle.std.specs.FinMap as map
use Rattle.std.specs.declared.cmp.Reverse.{Reverse}
use Rattle.ipc_ids.specs.Table.{Table, id_of}
use Rattle.ipc_ids.specs.declared.slots.Slot.{Slot}
use Rattle.ipc_ids.specs.declared.slots.Slot.TheVariants.{Held, Vacant, Retired}

module _ {X : Type 0} where
  -- the sequence number of its object or of its next one; 65536: retired
  abbrev pub seq_in : Slot X → ℕ
  seq_in (Held seq x) = seq
  seq_in (Vacant seq) = seq
  seq_in Retired = 65536

  abbrev pub held_in : Slot X → Option X
  held_in (Held seq x) = Some x
  held_in (Vacant seq) = None
  held_in Retired = None

  abbrev pub is_vacant : Slot X → Bool
  is_vacant (Held seq x) = false
  is_vacant (Vacant seq) = true
  is_vacant Retired = false

  abbrev pub is_never_used : Slot X → Bool
  is_never_used (Held seq x) = false
  is_never_used (Vacant seq) = false
  is_never_used Retired = true

  -- the sequence number of the object that it holds
  abbrev pub held_seq : Slot X → Option ℕ
  held_seq (Held seq x) = Some seq
  held_seq (Vacant seq) = None
  held_seq Retired = None

  -- its object, where that has this sequence number
  abbrev pub object_of : ℕ → Slot X → Option X
  object_of seq slot = cond (nat_eq (seq_in slot) seq) (held_in slot) None

  -- with another object in place of the one that it holds
  abbrev pub with_held : Slot X → X → Slot X
  with_held (Held seq x) w = Held seq w
  with_held (Vacant seq) w = Vacant seq
  with_held Retired w = Retired

  -- what a slot is once its object of this sequence number left
  abbrev pub slot_after : ℕ → Slot X
  slot_after seq = cond (nat_lt seq 65535) (Vacant (seq + 1)) Retired

  -- the sequence numbers that were raised, of the slots from this one on
  unfoldable pub seqs_from : ℕ → ℕ → List (Slot X) → map.FinMap nat_cmp ℕ
  seqs_from first slot [] = map.empty
  seqs_from first slot (e ∷ es) =
      cond (nat_lt first (seq_in e))
      (map.insert (seqs_from first (slot + 1) es) slot (seq_in e))
      (seqs_from first (slot + 1) es)

  abbrev pub put_some : map.FinMap nat_cmp X → ℕ → Option X → map.FinMap nat_cmp X
  put_some m id None = m
  put_some m id (Some x) = map.insert m id x

  -- the objects of the slots from this one on
  unfoldable pub objects_from : ℕ → List (Slot X) → map.FinMap nat_cmp X
  objects_from slot [] = map.empty
  objects_from slot (e ∷ es) = put_some (objects_from (slot + 1) es) (id_of (seq_in e) slot) (held_in e)

  abbrev pub table_of : ℕ → ℕ → List (Slot X) → Table X
  table_of slots first es = record {
    slots = slots;
    first_seq = first;
    seqs = seqs_from first 0 es;
    objects = objects_from 0 es;
  }

  -- its sequence number isn't below the first one, and fits 16 bits
  abbrev pub IsSoundSlot : ℕ → Slot X → Type 0
  IsSoundSlot first (Held seq x) = (first ≤ seq) × (seq < 65536)
  IsSoundSlot first (Vacant seq) = (first ≤ seq) × (seq < 65536)
  IsSoundSlot first Retired = ⊤

  abbrev pub is_vacant_at : Option (Slot X) → Bool
  is_vacant_at None = false
  is_vacant_at (Some e) = is_vacant e

-- the heap's order: its first element is the lowest slot
abbrev pub lowest_first : Reverse ℕ → Reverse ℕ → Ordering
lowest_first x y = nat_cmp y.0 x.0

-- how often the slot stands in the heap
abbrev pub count_of : ℕ → List (Reverse ℕ) → ℕ
count_of slot free = count_by (λ r. nat_eq r.0 slot) free

-- the heap holds each vacant slot once and no other, and it has room for each slot that was used
pub record IsLayout {X : Type 0} (slots first : ℕ) (es : List (Slot X)) (free : List (Reverse ℕ))
    (len capacity : ℕ) : Type 0 where
  pub few : slots ≤ 32768
  pub small : first < 65536
  pub within : length es ≤ slots
  pub each : (k : ℕ) (e : Slot X) → slice_get es k ≡ Some e → IsSoundSlot first e
  pub ordered : IsHeap lowest_first free
  pub places : (k : ℕ) → count_of k free ≡ cond (is_vacant_at (slice_get es k)) 1 0
  pub counted : len ≡ count_by is_vacant es
  pub room : length es ≤ capacity
