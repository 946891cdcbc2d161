use Rattle.std.proofs.Common.{◌≡◌, ℕ, ◌<◌, ◌++◌, vec_len, All}
use Rattle.std.specs.Vec.Iter.{into_iter_items}
use Rattle.ipc_space.specs.Telling.{replies_in}
use Rattle.ipc_desk.specs.Kept.{kept_for}
use Rattle.ipc_desk.proofs.asking.keep.Given as goal

-- what is kept, and what is still to be kept, is what is wanted
abbrev pub invariant-loop-client : goal.invariant-loop-client
invariant-loop-client l = record {
  steps : goal.iterator-loop-client.can_next l.client-iterator;
  finite : goal.iterator-loop-client.is_finite l.client-iterator;
  count : vec_len l.kept ≡ vec_len l.initial.kept;
  known : All (λ told. told.0 < vec_len l.initial.kept) (into_iter_items l.client-iterator);
  kept : (r : ℕ) → kept_for l.kept.items r ++ replies_in (into_iter_items l.client-iterator) r ≡ kept_for l.initial.kept.items r ++ replies_in (into_iter_items l.initial.client-iterator) r;
}
