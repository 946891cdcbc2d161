-- The calls that wait as clients and calls.
use Rattle.std.proofs.Common.{◌≡◌, ℕ, suc, Bool, true, false, ◌||◌, List, [], ◌∷◌, ◌++◌, length, refl, ap, ◌∙◌, ⊎_elim, Option, Some, None}
use Rattle.std.specs.Prelude.{◌==◌, not, filter, option_map}
use Rattle.std.specs.List.{find, list_any}
use Rattle.std.proofs.lemmas.Bool.{cases_Bool, eqb-true}
use Rattle.std.proofs.lemmas.Option.{none-some, same_Some}
use Rattle.ipc_call.specs.declared.calls.Call.{Call}
use Rattle.ipc_call.specs.declared.replies.Waiting.{Waiting}
use Rattle.ipc_parked.specs.declared.parked.Arrival.{Arrival}
use Rattle.ipc_parked.specs.Parked.{waiting, entry_of, is_there, arrival_of, others}

pub waiting-push : (es : List (ℕ × Arrival)) (e : ℕ × Arrival) → waiting (es ++ e ∷ []) ≡ waiting es ++ entry_of e ∷ []
waiting-push [] e = refl
waiting-push (d ∷ es) e = ap (λ (ws : List Waiting). entry_of d ∷ ws) (waiting-push es e)

pub length-waiting : (es : List (ℕ × Arrival)) → length (waiting es) ≡ length es
length-waiting [] = refl
length-waiting (e ∷ es) = ap suc (length-waiting es)

pub any_waiting : (c : ℕ) (es : List (ℕ × Arrival)) → list_any (λ w. w.client == c) (waiting es) ≡ is_there c es
any_waiting c [] = refl
any_waiting c (e ∷ es) = ap (λ (later : Bool). (e.0 == c) || later) (any_waiting c es)

-- those of other clients
pub waiting-others : (c : ℕ) (es : List (ℕ × Arrival)) → waiting (others c es) ≡ filter (λ w. not (w.client == c)) (waiting es)
waiting-others c [] = refl
waiting-others c (e ∷ es) =
    ⊎_elim
    (λ (own : (e.0 == c) ≡ true). rw own (waiting-others c es))
    (λ (other : (e.0 == c) ≡ false). rw other (ap (λ (ws : List Waiting). entry_of e ∷ ws) (waiting-others c es)))
    (cases_Bool (e.0 == c))

-- the client's own
pub waiting-own : (c : ℕ) (es : List (ℕ × Arrival)) → find (λ w. w.client == c) (waiting es) ≡ option_map (λ a. entry_of (c, a)) (arrival_of c es)
waiting-own c [] = refl
waiting-own c (e ∷ es) =
    ⊎_elim
    (λ (own : (e.0 == c) ≡ true). rw own (ap (λ k. Some (entry_of (k, e.1))) (eqb-true e.0 c own)))
    (λ (other : (e.0 == c) ≡ false). rw other (waiting-own c es))
    (cases_Bool (e.0 == c))

called : (c : ℕ) (call : Call) (o : Option Arrival) → option_map (λ a. a.call) o ≡ Some call
    → (until : Option ℕ) × (option_map {U = Waiting} (λ a. entry_of (c, a)) o ≡ Some (record { client = c; call = call; deadline = until }))
called c call None is = absurd (none-some call is)
called c call (Some a) is = (a.deadline, ap (λ k. Some (record { client = c; call = k; deadline = a.deadline })) (same_Some a.call call is))

-- with some deadline, or none
pub waiting_at : (c : ℕ) (call : Call) (es : List (ℕ × Arrival)) → option_map (λ a. a.call) (arrival_of c es) ≡ Some call
    → (until : Option ℕ) × (find (λ w. w.client == c) (waiting es) ≡ Some (record { client = c; call = call; deadline = until }))
waiting_at c call es is = let there = called c call (arrival_of c es) is in (there.0, waiting-own c es ∙ there.1)
