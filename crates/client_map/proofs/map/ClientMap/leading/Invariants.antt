use Rattle.std.proofs.Common.{◌≤◌, ◌<◌, ℕ}
use Rattle.std.specs.Prelude.{IsSome}
use Rattle.std.specs.FinMap.{get}
use Rattle.client_map.specs.Keys.{key}
use Rattle.client_map.proofs.Walks.{Walk}
use Rattle.client_map.proofs.map.ClientMap.leading.Given as goal

-- the client has something under each number so far, and what is left begins with the next
abbrev pub invariant-loop-key : goal.invariant-loop-key
invariant-loop-key g l = record {
  can : (goal.iterator-loop-key g).can_next l.key-iterator;
  finite : (goal.iterator-loop-key g).is_finite l.key-iterator;
  within : l.number ≤ l.limit;
  taken : (n : ℕ) → n < l.number → IsSome (get l.self (key l.client n));
  walk : Walk l.self l.client l.number l.key-iterator;
}
