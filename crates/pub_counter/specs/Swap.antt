-- Clients that meet in pairs and swap amounts, and that their history meets the laws of a served state.
use Rattle.std.specs.Prelude.{◌≡◌, ◌≢◌, ◌⊎◌, ℕ, Bool, true, false, ◌+◌, ◌≤◌, List, [], ◌∷◌, ◌++◌, length, ◌==◌}
use Rattle.std.specs.Prelude.{if◌then◌else◌, Option, Some, None, ⊤}
use Rattle.std.proofs.Common.{eqb, eq-eqb, ne_eqb, refl, sym, ap, ◌∙◌, subst, inl, inr, ⊎_elim, arith, length-append}
use Rattle.std.proofs.Common.{append_assoc}
use mathlib.Core.Logic.{dite}
use native.Mathlib.Decide.{ℕ_discrete}
use Rattle.pub_counter.specs.declared.counter.Turn.{Turn}
use Rattle.pub_counter.specs.Counter.{own}

abbrev pub legal : List Turn → Type 0
legal h = ⊤

-- who waits for another, and its amount: the first, third, and so on of all clients
abbrev pub alone : List Turn → Option (ℕ × ℕ)
alone [] = None
alone (a ∷ []) = Some (a.client, a.amount)
alone (a ∷ b ∷ h) = alone h

-- what client r is told where these two meet: the amount of the other
abbrev pub swapped : ℕ → ℕ → Turn → ℕ → List ℕ
swapped first amount b r = if first == r then b.amount ∷ [] else if b.client == r then amount ∷ [] else []

abbrev pub replies : List Turn → ℕ → List ℕ
replies [] r = []
replies (a ∷ []) r = []
replies (a ∷ b ∷ h) r = swapped a.client a.amount b r ++ replies h r

by_equal : (F : Bool → Type 0) (x y : ℕ) → (x ≡ y → F true) → (x ≢ y → F false) → F (eqb x y)
by_equal F x y hit miss = dite (ℕ_discrete x y) (λ e. subst F (sym (eq-eqb x y e)) (hit e))
    (λ other. subst F (sym (ne_eqb x y other)) (miss other))

abbrev is_some_one : Option (ℕ × ℕ) → Type 0
is_some_one (Some x) = Unit {0}
is_some_one None = ⊥

abbrev is_none_one : Option (ℕ × ℕ) → Type 0
is_none_one None = Unit {0}
is_none_one (Some x) = ⊥

-- the first of two waits
pub waits : (h : List Turn) (e : Turn) (r : ℕ) → alone h ≡ None → replies (h ++ e ∷ []) r ≡ replies h r
waits [] e r n = refl
waits (a ∷ []) e r n = absurd (subst is_some_one n tt)
waits (a ∷ b ∷ h) e r n = ap (λ (l : List ℕ). swapped a.client a.amount b r ++ l) (waits h e r n)

abbrev value : Option (ℕ × ℕ) → ℕ × ℕ
value (Some y) = y
value None = (0, 0)

-- the second meets it
pub meets : (h : List Turn) (e : Turn) (r p x : ℕ) → alone h ≡ Some (p, x)
    → replies (h ++ e ∷ []) r ≡ replies h r ++ swapped p x e r
meets [] e r p x s = absurd (subst is_none_one s tt)
meets (a ∷ []) e r p x s = nil_behind (swapped a.client a.amount e r)
    ∙ (λ i. swapped (pair_of s i).0 (pair_of s i).1 e r)
  where
    pair_of : ◌≡◌ {A = Option (ℕ × ℕ)} (Some (a.client, a.amount)) (Some (p, x))
        → ◌≡◌ {A = ℕ × ℕ} (a.client, a.amount) (p, x)
    pair_of e = ap value e

    nil_behind : (l : List ℕ) → l ++ [] ≡ l
    nil_behind [] = refl
    nil_behind (y ∷ l) = ap (λ (k : List ℕ). y ∷ k) (nil_behind l)
meets (a ∷ b ∷ h) e r p x s = ap (λ (l : List ℕ). swapped a.client a.amount b r ++ l)
    (meets h e r p x s) ∙ sym (append_assoc (swapped a.client a.amount b r) (replies h r) (swapped p x e r))

pub alone_more : (h : List Turn) (e : Turn) → alone h ≡ None → alone (h ++ e ∷ []) ≡ Some (e.client, e.amount)
alone_more [] e n = refl
alone_more (a ∷ []) e n = absurd (subst is_some_one n tt)
alone_more (a ∷ b ∷ h) e n = alone_more h e n

pub alone_less : (h : List Turn) (e : Turn) (p : ℕ × ℕ) → alone h ≡ Some p → alone (h ++ e ∷ []) ≡ None
alone_less [] e p s = absurd (subst is_none_one s tt)
alone_less (a ∷ []) e p s = refl
alone_less (a ∷ b ∷ h) e p s = alone_less h e p s

at_most_one : (p x : ℕ) (b : Turn) (r : ℕ) → (swapped p x b r ≡ []) ⊎ ((y : ℕ) × (swapped p x b r ≡ y ∷ []))
at_most_one p x b r = by_equal (λ z. ((if z then b.amount ∷ [] else if b.client == r then x ∷ [] else []) ≡ [])
    ⊎ ((y : ℕ) × ((if z then b.amount ∷ [] else if b.client == r then x ∷ [] else []) ≡ y ∷ []))) p r
    (λ _. inr (b.amount, refl))
    (λ _. by_equal (λ z. ((if z then x ∷ [] else []) ≡ [])
    ⊎ ((y : ℕ) × ((if z then x ∷ [] else []) ≡ y ∷ []))) b.client r (λ _. inr (x, refl)) (λ _. inl refl))

pub one_more : (h : List Turn) (e : Turn) (r : ℕ) → (replies (h ++ e ∷ []) r ≡ replies h r)
    ⊎ ((y : ℕ) × (replies (h ++ e ∷ []) r ≡ replies h r ++ y ∷ []))
one_more [] e r = inl refl
one_more (a ∷ []) e r = ⊎_elim (λ s. inl (ap (λ (l : List ℕ). l ++ []) s))
    (λ s. inr (s.0, ap (λ (l : List ℕ). l ++ []) s.1)) (at_most_one a.client a.amount e r)
one_more (a ∷ b ∷ h) e r = let front : List ℕ = swapped a.client a.amount b r in
    ⊎_elim (λ s. inl (ap (λ (l : List ℕ). front ++ l) s))
    (λ s. inr (s.0, ap (λ (l : List ℕ). front ++ l) s.1 ∙ sym (append_assoc front (replies h r) (s.0 ∷ []))))
    (one_more h e r)

pub no_more : (h : List Turn) (r : ℕ) → length (replies h r) ≤ length (own h r)
no_more [] r = omega arith
no_more (a ∷ []) r = omega arith
no_more (a ∷ b ∷ h) r = let rest = no_more h r in
    let sum = length-append (swapped a.client a.amount b r) (replies h r) in let few = at_least in omega arith
  where
    at_least : length (swapped a.client a.amount b r) + length (own h r) ≤ length (own (a ∷ b ∷ h) r)
    at_least = by_equal (λ z. length (if z then b.amount ∷ [] else if b.client == r then a.amount ∷ [] else []) + length
        (own h r) ≤ length (if z then a.amount ∷ own (b ∷ h) r else own (b ∷ h) r)) a.client r
        (λ _. by_equal (λ z. 1 + length (own h r) ≤ length
        (a.amount ∷ (if z then b.amount ∷ own h r else own h r))) b.client r (λ _. omega arith) (λ _. omega arith))
        (λ _. by_equal (λ z. length (if z then a.amount ∷ [] else []) + length (own h r) ≤ length
        (if z then b.amount ∷ own h r else own h r)) b.client r (λ _. omega arith) (λ _. omega arith))
