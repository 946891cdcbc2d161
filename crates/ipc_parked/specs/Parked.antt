-- The calls that wait, as one list of clients with their calls, in order of arrival. The list is the project's own.
use Rattle.std.specs.Prelude.{◌≡◌, ℕ, ◌==◌, ◌&&◌, ◌⊎◌, Bool, true, false, not, nat_lt, List, [], ◌∷◌, map, filter, Option, Some, None, if◌then◌else◌}
use Rattle.std.specs.List.{find, list_any, AllByRecursion}
use Rattle.std.specs.Option.{option_map, unwrap_or}
use Rattle.std.specs.Borrow.{Bor}
use Rattle.ipc_call.specs.declared.calls.Call.{Call}
use Rattle.ipc_call.specs.declared.calls.Kind.{Kind}
use Rattle.ipc_call.specs.declared.replies.Waiting.{Waiting}
use Rattle.ipc_model.specs.Cancelled.{is_same, waits_on}
use Rattle.ipc_parked.specs.declared.parked.Arrival.{Arrival}
use Rattle.ipc_parked.specs.declared.waits.Wait.{Wait}
use Rattle.ipc_parked.specs.Waits.{clients_at}

-- a client with its call and its deadline
abbrev pub entry_of : ℕ × Arrival → Waiting
entry_of e = record { client = e.0; call = e.1.call; deadline = e.1.deadline }

abbrev pub waiting : List (ℕ × Arrival) → List Waiting
waiting es = map entry_of es

-- a call of the client waits
abbrev pub is_there : ℕ → List (ℕ × Arrival) → Bool
is_there client es = list_any (λ e. e.0 == client) es

-- the call of the client, with its place
abbrev pub arrival_of : ℕ → List (ℕ × Arrival) → Option Arrival
arrival_of client es = option_map (λ e. e.1) (find (λ e. e.0 == client) es)

-- a deadline is before another; None is after all
abbrev pub is_before : Option ℕ → Option ℕ → Bool
is_before None bound = false
is_before (Some deadline) None = true
is_before (Some deadline) (Some bound) = nat_lt deadline bound

-- those of other clients
abbrev pub others : ℕ → List (ℕ × Arrival) → List (ℕ × Arrival)
others client es = filter (λ e. not (e.0 == client)) es

-- each is of another client
unfoldable pub AreDistinct : List (ℕ × Arrival) → Type 0
AreDistinct [] = Unit {0}
AreDistinct (e ∷ es) = (is_there e.0 es ≡ false) × AreDistinct es

-- the same of clients and calls
unfoldable pub AreApart : List Waiting → Type 0
AreApart [] = Unit {0}
AreApart (w ∷ ws) = (list_any (λ v. v.client == w.client) ws ≡ false) × AreApart ws

-- those that wait on this object
abbrev pub on_object : Kind → ℕ → List (ℕ × Arrival) → List (ℕ × Arrival)
on_object kind id es = filter (λ e. waits_on kind id e.1.call) es

-- and their clients
abbrev pub clients_on : Kind → ℕ → List (ℕ × Arrival) → List ℕ
clients_on kind id es = map (λ e. e.0) (on_object kind id es)

-- the place of a call is this object
abbrev pub is_at : Kind → ℕ → Option (Kind × ℕ) → Bool
is_at kind id at = unwrap_or (option_map (λ object. is_same object.0 kind && object.1 == id) at) false

-- the rows on each object of a kind are the clients whose calls wait on it
abbrev pub IsIndex : Kind → List Wait → List (ℕ × Arrival) → Type 0
IsIndex kind rows es = (id : ℕ) → clients_at id rows ≡ clients_on kind id es

-- a test may be asked of each, where it may be asked of a client and a call that have pre
abbrev pub MayAsk : (ℕ → Bor Call → Type 0) → List (ℕ × Arrival) → Type 0
MayAsk pre es = AllByRecursion (λ e. (call : Bor Call) → call.now ≡ e.1.call → pre e.0 call) es

-- the test may give this answer of a client and its call, where post says what it may give
pub record Answers (post : ℕ → Bor Call → Bool → Type 0) (e : ℕ × Arrival) (answer : Bool) : Type 0 where
  pub shown : Bor Call
  pub shows : shown.now ≡ e.1.call
  pub says : post e.0 shown answer

-- the client of the first of which the answer is true, None where it is false of each
abbrev pub Picks : (ℕ × Arrival → Bool → Type 0) → List (ℕ × Arrival) → Option ℕ → Type 0
Picks answers [] client = client ≡ None
Picks answers (e ∷ es) client = ((client ≡ Some e.0) × answers e true) ⊎ (answers e false × Picks answers es client)

-- the call of a client came before that of another, which is not the same
unfoldable pub comes_before : ℕ → ℕ → List (ℕ × Arrival) → Bool
comes_before client other [] = false
comes_before client other (e ∷ es) = if e.0 == other then false else if e.0 == client then true else comes_before client other es

-- the lesser of two deadlines, where None is after all
abbrev pub sooner_of : Option ℕ → Option ℕ → Option ℕ
sooner_of a b = if is_before a b then a else b

-- the soonest deadline
unfoldable pub soonest_deadline : List (ℕ × Arrival) → Option ℕ
soonest_deadline [] = None
soonest_deadline (e ∷ es) = sooner_of e.1.deadline (soonest_deadline es)
