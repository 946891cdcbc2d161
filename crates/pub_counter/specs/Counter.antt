-- The turns of a counter, and that they meet the laws of a served state.
use Rattle.std.specs.Prelude.{◌≡◌, ◌≢◌, ◌⊎◌, ℕ, Bool, true, false, ◌+◌, ◌<◌, ◌≤◌, ◌^◌, List, [], ◌∷◌, ◌++◌, length}
use Rattle.std.specs.Prelude.{◌==◌, if◌then◌else◌}
use Rattle.std.proofs.Common.{eqb, eq-eqb, ne_eqb, refl, sym, ap, ◌∙◌, subst, inl, inr, ⊎_elim, arith}
use mathlib.Core.Logic.{dite}
use native.Mathlib.Decide.{ℕ_discrete}
use Rattle.pub_counter.specs.declared.counter.Turn.{Turn}

-- the sum of all amounts
abbrev pub total : List Turn → ℕ
total [] = 0
total (e ∷ h) = e.amount + total h

pub total_more : (h : List Turn) (e : Turn) → total (h ++ e ∷ []) ≡ total h + e.amount
total_more [] e = omega arith
total_more (d ∷ h) e = let more = total_more h e in omega arith

-- what a client added, turn by turn
abbrev pub own : List Turn → ℕ → List ℕ
own [] r = []
own (e ∷ h) r = if e.client == r then e.amount ∷ own h r else own h r

-- what a client was told from the sum t on: at each of its turns the sum of all amounts up to it
abbrev pub replies_from : ℕ → List Turn → ℕ → List ℕ
replies_from t [] r = []
replies_from t (e ∷ h) r = let sum = t + e.amount in
    if e.client == r then sum ∷ replies_from sum h r else replies_from sum h r

abbrev pub replies : List Turn → ℕ → List ℕ
replies = replies_from 0

by_equal : (F : Bool → Type 0) (x y : ℕ) → (x ≡ y → F true) → (x ≢ y → F false) → F (eqb x y)
by_equal F x y hit miss = dite (ℕ_discrete x y) (λ e. subst F (sym (eq-eqb x y e)) (hit e))
    (λ other. subst F (sym (ne_eqb x y other)) (miss other))

pub own_call : (h : List Turn) (e : Turn) → own (h ++ e ∷ []) e.client ≡ own h e.client ++ e.amount ∷ []
own_call [] e = by_equal (λ b. (if b then e.amount ∷ [] else []) ≡ e.amount ∷ []) e.client e.client (λ _. refl)
    (λ other. absurd (other refl))
own_call (d ∷ h) e = by_equal (λ b. (if b then d.amount ∷ own (h ++ e ∷ []) e.client else own (h ++ e ∷ []) e.client)
    ≡ (if b then d.amount ∷ own h e.client else own h e.client) ++ e.amount ∷ []) d.client e.client
    (λ _. ap (λ (l : List ℕ). d.amount ∷ l) (own_call h e)) (λ _. own_call h e)

pub own_other : (h : List Turn) (e : Turn) (r : ℕ) → r ≢ e.client → own (h ++ e ∷ []) r ≡ own h r
own_other [] e r other = by_equal (λ b. (if b then e.amount ∷ [] else []) ≡ []) e.client r
    (λ same. absurd (other (sym same))) (λ _. refl)
own_other (d ∷ h) e r other = by_equal (λ b. (if b then d.amount ∷ own (h ++ e ∷ []) r else own (h ++ e ∷ []) r)
    ≡ (if b then d.amount ∷ own h r else own h r)) d.client r
    (λ _. ap (λ (l : List ℕ). d.amount ∷ l) (own_other h e r other)) (λ _. own_other h e r other)

replied_from : (t : ℕ) (h : List Turn) (e : Turn)
    → replies_from t (h ++ e ∷ []) e.client ≡ replies_from t h e.client ++ (t + total (h ++ e ∷ [])) ∷ []
replied_from t [] e = by_equal (λ b. (if b then (t + e.amount) ∷ [] else [])
    ≡ (t + (e.amount + 0)) ∷ []) e.client e.client (λ _. ap (λ (k : ℕ). k ∷ []) (omega arith))
    (λ other. absurd (other refl))
replied_from t (d ∷ h) e = let s = t + d.amount in
    let same : s + total (h ++ e ∷ []) ≡ t + (d.amount + total (h ++ e ∷ [])) = omega arith in
    by_equal (λ b. (if b then s ∷ replies_from s (h ++ e ∷ []) e.client else replies_from s (h ++ e ∷ []) e.client)
    ≡ (if b then s ∷ replies_from s h e.client else replies_from s h e.client)
    ++ (t + (d.amount + total (h ++ e ∷ []))) ∷ []) d.client e.client
    (λ _. ap (λ (l : List ℕ). s ∷ l) (replied_from s h e)
    ∙ ap (λ (k : ℕ). s ∷ (replies_from s h e.client ++ k ∷ [])) same)
    (λ _. replied_from s h e ∙ ap (λ (k : ℕ). replies_from s h e.client ++ k ∷ []) same)

-- a turn brings its client the sum of all amounts up to it
pub replied : (h : List Turn) (e : Turn)
    → replies (h ++ e ∷ []) e.client ≡ replies h e.client ++ total (h ++ e ∷ []) ∷ []
replied h e = replied_from 0 h e ∙ ap (λ (k : ℕ). replies h e.client ++ k ∷ []) (omega arith)

unreplied_from : (t : ℕ) (h : List Turn) (e : Turn) (r : ℕ) → r ≢ e.client
    → replies_from t (h ++ e ∷ []) r ≡ replies_from t h r
unreplied_from t [] e r other = by_equal (λ b. (if b then (t + e.amount) ∷ [] else []) ≡ []) e.client r
    (λ same. absurd (other (sym same))) (λ _. refl)
unreplied_from t (d ∷ h) e r other = let s = t + d.amount in
    by_equal (λ b. (if b then s ∷ replies_from s (h ++ e ∷ []) r else replies_from s (h ++ e ∷ []) r)
    ≡ (if b then s ∷ replies_from s h r else replies_from s h r)) d.client r
    (λ _. ap (λ (l : List ℕ). s ∷ l) (unreplied_from s h e r other)) (λ _. unreplied_from s h e r other)

-- and no other client a reply
pub unreplied : (h : List Turn) (e : Turn) (r : ℕ) → r ≢ e.client → replies (h ++ e ∷ []) r ≡ replies h r
unreplied h e r other = unreplied_from 0 h e r other

abbrev OneMore : List ℕ → List ℕ → Type 0
OneMore more l = (more ≡ l) ⊎ ((x : ℕ) × (more ≡ l ++ x ∷ []))

behind : (y : ℕ) (more l : List ℕ) → OneMore more l → OneMore (y ∷ more) (y ∷ l)
behind y more l h = ⊎_elim (λ e. inl (ap (λ (k : List ℕ). y ∷ k) e)) (λ t. inr (t.0, ap (λ (k : List ℕ). y ∷ k) t.1)) h

one_more_from : (t : ℕ) (h : List Turn) (e : Turn) (r : ℕ)
    → OneMore (replies_from t (h ++ e ∷ []) r) (replies_from t h r)
one_more_from t [] e r = by_equal (λ b. OneMore (if b then (t + e.amount) ∷ [] else []) []) e.client r
    (λ _. inr (t + e.amount, refl)) (λ _. inl refl)
one_more_from t (d ∷ h) e r = let s = t + d.amount in
    by_equal (λ b. OneMore (if b then s ∷ replies_from s (h ++ e ∷ []) r else replies_from s (h ++ e ∷ []) r)
    (if b then s ∷ replies_from s h r else replies_from s h r)) d.client r
    (λ _. behind s (replies_from s (h ++ e ∷ []) r) (replies_from s h r) (one_more_from s h e r))
    (λ _. one_more_from s h e r)

pub one_more : (h : List Turn) (e : Turn) (r : ℕ) → (replies (h ++ e ∷ []) r ≡ replies h r)
    ⊎ ((x : ℕ) × (replies (h ++ e ∷ []) r ≡ replies h r ++ x ∷ []))
one_more h e r = one_more_from 0 h e r

no_more_from : (t : ℕ) (h : List Turn) (r : ℕ) → length (replies_from t h r) ≤ length (own h r)
no_more_from t [] r = omega arith
no_more_from t (d ∷ h) r = let s = t + d.amount in let rest = no_more_from s h r in
    by_equal
    (λ b. length (if b then s ∷ replies_from s h r else replies_from s h r)
    ≤ length (if b then d.amount ∷ own h r else own h r))
    d.client r (λ _. omega arith) (λ _. rest)

pub no_more : (h : List Turn) (r : ℕ) → length (replies h r) ≤ length (own h r)
no_more h r = no_more_from 0 h r

-- a client's turn behind the others, and the sum with it
abbrev pub IsAdded : ℕ → ℕ → List Turn → List Turn → ℕ → Type 0
IsAdded client amount old new sum = (new ≡ old ++ record { client = client; amount = amount } ∷ []) × (sum ≡ total new)
    × (sum < 2 ^ 64)
