-- The calls that wait with the numbers of their arrivals, by client and in order.
use Rattle.std.specs.Prelude.{◌≡◌, ℕ, ◌<◌, ◌≤◌, ◌==◌, Bool, true, false, not, nat_lt, List, [], ◌∷◌, map, filter, filter_map, length, take, drop, slice_index_or, Option, Some, None}
use Rattle.std.specs.List.{find, AllByRecursion}
use Rattle.std.specs.Option.{option_map}
use Rattle.ipc_parked.specs.declared.arrivals.Stay.{Stay}
use Rattle.ipc_parked.specs.declared.parked.Arrival.{Arrival}

-- the clients that wait with their calls, in order of arrival, and the number that the next will have
pub record ArrivalsState : Type 0 where
  pub stays : List (ℕ × Stay)
  pub next : ℕ

abbrev pub stay_from : ℕ → Arrival → Stay
stay_from number arrival = record { number = number; arrival = arrival }

-- without the numbers
abbrev pub entries : List (ℕ × Stay) → List (ℕ × Arrival)
entries es = map (λ e. (e.0, e.1.arrival)) es

abbrev pub stay_of : ℕ → List (ℕ × Stay) → Option Stay
stay_of client es = option_map (λ e. e.1) (find (λ e. e.0 == client) es)

-- those of other clients
abbrev pub other_stays : ℕ → List (ℕ × Stay) → List (ℕ × Stay)
other_stays client es = filter (λ e. not (e.0 == client)) es

-- each is of another client than those before it and has a higher number, and the next number is higher still
abbrev pub IsLine : ℕ → List (ℕ × Stay) → Type 0
IsLine next [] = Unit {0}
IsLine next (e ∷ es) = AllByRecursion (λ later. ((later.0 == e.0) ≡ false) × (e.1.number < later.1.number)) es × (e.1.number < next) × IsLine next es

-- what stands under the number of a client
abbrev pub slot_at : List (Option Stay) → ℕ → Option Stay
slot_at slots client = slice_index_or slots client None

abbrev pub stays_in : List (Option Stay) → List ℕ → List (ℕ × Stay)
stays_in slots order = filter_map (λ client. option_map (λ stay. (client, stay)) (slot_at slots client)) order

-- the clients in order are those that wait, and the slot of each client has what waits of it
abbrev pub Holds : List (Option Stay) → List ℕ → List (ℕ × Stay) → Type 0
Holds slots order es = (order ≡ map (λ e. e.0) es) × ((client : ℕ) → slot_at slots client ≡ stay_of client es)

-- there is one, of a number below this one
abbrev pub is_below_number : ℕ → Option (ℕ × Stay) → Bool
is_below_number number None = false
is_below_number number (Some e) = nat_lt e.1.number number

-- how many there are of numbers below this one
pub record IsTurn (es : List (ℕ × Stay)) (number : ℕ) (at : ℕ) : Type 0 where
  pub within : at ≤ length es
  pub below : AllByRecursion (λ e. e.1.number < number) (take at es)
  pub above : AllByRecursion (λ e. number ≤ e.1.number) (drop at es)
