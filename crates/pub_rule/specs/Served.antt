-- The laws of a served state, on the calls and the replies of a history.
use Rattle.std.specs.Prelude.{◌≡◌, ◌≢◌, ◌⊎◌, ℕ, ◌≤◌, List, [], ◌∷◌, ◌++◌, length}

-- an event by which a legal history goes on is one more call of its client
abbrev pub AddsCall : {E C : Type 0} → (List E → Type 0) → (List E → ℕ → List C) → (E → ℕ) → (E → C) → Type 0
AddsCall {E} legal own client call = (h : List E) (e : E) → legal h → legal (h ++ e ∷ [])
    → own (h ++ e ∷ []) (client e) ≡ own h (client e) ++ call e ∷ []

-- and no call of another
abbrev pub AddsNoOther : {E C : Type 0} → (List E → Type 0) → (List E → ℕ → List C) → (E → ℕ) → Type 0
AddsNoOther {E} legal own client = (h : List E) (e : E) (r : ℕ) → legal h → legal (h ++ e ∷ []) → r ≢ client e
    → own (h ++ e ∷ []) r ≡ own h r

-- and adds at most one reply for each client
abbrev pub AddsAtMostOneReply : {E R : Type 0} → (List E → Type 0) → (List E → ℕ → List R) → Type 0
AddsAtMostOneReply {E} {R} legal replies = (h : List E) (e : E) (r : ℕ) → legal h → legal (h ++ e ∷ [])
    → (replies (h ++ e ∷ []) r ≡ replies h r) ⊎ ((x : R) × (replies (h ++ e ∷ []) r ≡ replies h r ++ x ∷ []))

-- in a legal history no client has more replies than calls
abbrev pub HasNoMoreReplies : {E C R : Type 0} → (List E → Type 0) → (List E → ℕ → List C) → (List E → ℕ → List R)
    → Type 0
HasNoMoreReplies {E} legal own replies = (h : List E) (r : ℕ) → legal h → length (replies h r) ≤ length (own h r)
