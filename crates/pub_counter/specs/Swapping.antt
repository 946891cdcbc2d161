-- How a client serves swaps.
use Rattle.std.specs.Prelude.{◌≡◌, ◌≢◌, ℕ, ◌<◌, List, Some}
use Rattle.pub_counter.specs.declared.counter.Turn.{Turn}
use Rattle.pub_counter.specs.declared.swap.Swap.{Swap}
use Rattle.pub_counter.specs.Swap.{alone}

-- the turns so far
abbrev pub turns_of : Swap → List Turn
turns_of state = state.turns.items

-- another client waits, with this amount
abbrev pub HasPartner : ℕ → ℕ → ℕ → ℕ → Swap → Type 0
HasPartner n client partner other state = (partner < n) × (partner ≢ client)
    × (alone state.turns.items ≡ Some (partner, other))
