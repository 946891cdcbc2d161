-- No more calls wait than there are clients.
use Rattle.std.proofs.Common.{◌≡◌, ℕ, ◌+◌, ◌≤◌, ◌<◌, true, cond, eqb, List, [], ◌∷◌, map, length, refl, sym, ap, arith, eq-eqb, ⊎_elim, lt_of_not-le}
use Rattle.std.specs.List.{list_any}
use mathlib.Core.Logic.{dite}
use native.Mathlib.Decide.{dec_le}
use Rattle.std.proofs.lemmas.Bool.{eqb-true, false≢true, or_cases}
use Rattle.std.proofs.lemmas.List.{length-map}
use Rattle.std.proofs.lemmas.Map.Steps.{length-le_from_distinct_below}
use Rattle.ipc_call.specs.declared.replies.Waiting.{Waiting}
use Rattle.ipc_model.specs.State.{opening}
use Rattle.ipc_history.specs.History.{History, IsLegal, run}
use Rattle.ipc_space.proofs.Balance.{none-run, waits_of}
use Rattle.ipc_space.proofs.Once.{none_apart, waits_once}

-- a client that is among them has a call that waits
some-of : (q : ℕ) (ws : List Waiting) → list_any (eqb q) (map (λ (w : Waiting). w.client) ws) ≡ true → 1 ≤ waits_of q ws
some-of q [] is = absurd (false≢true is)
some-of q (w ∷ ws) is =
    ⊎_elim
    (λ (here : eqb q w.client ≡ true). let one = ap {B = ℕ} (λ b. cond b 1 0) (eq-eqb w.client q (sym (eqb-true q w.client here))) in omega (arith, one))
    (λ (later : list_any (eqb q) (map (λ (v : Waiting). v.client) ws) ≡ true). let rest = some-of q ws later in omega (arith, rest))
    (or_cases (eqb q w.client) (list_any (eqb q) (map (λ (v : Waiting). v.client) ws)) is)

below : (n : ℕ) (ws : List Waiting) → ((r : ℕ) → n ≤ r → waits_of r ws ≡ 0) → (q : ℕ) → list_any (eqb q) (map (λ (w : Waiting). w.client) ws) ≡ true → q < n
below n ws none q is =
    dite (dec_le n q)
    (λ above. let some = some-of q ws is in let no = none q above in absurd (omega (arith, some, no)))
    (λ under. lt_of_not-le under)

pub few_wait : (h : History) → IsLegal h → length (run h).parked ≤ length h.clients
few_wait h legal =
    let start = opening h.limits h.clients in
    let ws = (run h).parked in
    let none = none-run start h.events legal none_apart (λ q far. refl) in
    let clients = map (λ (w : Waiting). w.client) ws in
    let few : length clients ≤ length h.clients = length-le_from_distinct_below clients (length h.clients) (waits_once h legal) (below (length h.clients) ws none) in
    let all = length-map {B = ℕ} ws (λ (w : Waiting). w.client) in
    omega (arith, few, all)
