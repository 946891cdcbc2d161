-- What a table becomes where each object is replaced by what is seen of it.
use Rattle.std.specs.Prelude.{ℕ, map}
use Rattle.std.specs.Ordering.{nat_cmp}
use Rattle.std.specs.FinMap as finite
use Rattle.ipc_ids.specs.Table.{Table}

-- each value is replaced
abbrev pub map_values : {X Y : Type 0} → (X → Y) → finite.FinMap nat_cmp X → finite.FinMap nat_cmp Y
map_values f m = finite.from_sorted (map (λ e. (e.0, f e.1)) (finite.entries m))

abbrev pub image : {X Y : Type 0} → (X → Y) → Table X → Table Y
image f t = record { slots = t.slots; first_seq = t.first_seq; seqs = t.seqs; objects = map_values f t.objects }

-- each object changes, by its identifier
abbrev pub map_entries : {X Y : Type 0} → (ℕ → X → Y) → Table X → Table Y
map_entries f t = record {
  slots = t.slots;
  first_seq = t.first_seq;
  seqs = t.seqs;
  objects = finite.from_sorted (map (λ e. (e.0, f e.0 e.1)) (finite.entries t.objects));
}
