-- The rows at a set, changed client by client.
use Rattle.std.proofs.Common.{◌≡◌, ◌∙◌, ℕ, ◌-◌, ◌<◌, ◌≤◌, ap, arith, refl, sym, ℤ, Bool, true, false, List, ⊎_elim}
use Rattle.std.specs.Prelude.{◌==◌, nat_lt, Option, Some, None, IfSome, if◌then◌else◌}
use Rattle.std.specs.FinMap as finite
use Rattle.std.proofs.lemmas.Bool.{cases_eq, cases_lt}
use Rattle.client_map.specs.Keys.{key}
use Rattle.sem_undo.specs.declared.rows.Rows.{Rows}
use Rattle.sem_undo.specs.Rows.{IsNoted, is_before, is_here, row_of}
use Rattle.sem_undo.proofs.Changes.{is_here_apart, is_here_here}

-- the rows at a set are changed of each client before the next
abbrev pub so_far : Option ℕ → ℕ → (Option (List ℤ) → Option (List ℤ)) → (ℕ → ℕ → Option (List ℤ)) → ℕ → ℕ → Option (List ℤ)
so_far next set change rows c s = if s == set then (if is_before next c then change (rows c s) else rows c s) else rows c s

is_that : (s set : ℕ) → (s == set) ≡ true → s ≡ set
is_that s set h = grind (arith, h)

itself : (s : ℕ) → (s == s) ≡ true
itself s = grind arith

-- how many clients are left
abbrev pub left : Option ℕ → ℕ
left None = 0
left (Some n) = 18446744073709551616 - n

module _ (next : Option ℕ) (set : ℕ) (change : Option (List ℤ) → Option (List ℤ)) (none : change None ≡ None) (u : Rows) (noted : IsNoted u) where
  -- none of those before the first has a row
  pub so_far_first : ((c : ℕ) → is_before next c ≡ true → finite.get u.clients (key set c) ≡ None) → (c s : ℕ) → row_of u c s ≡ so_far next set change (row_of u) c s
  so_far_first empty c s = outer (s == set) (is_that s set)
    where
      inner : (b : Bool) → (b ≡ true → row_of u c s ≡ None) → row_of u c s ≡ (if b then change (row_of u c s) else row_of u c s)
      inner true h = h refl ∙ sym none ∙ ap change (sym (h refl))
      inner false h = refl

      outer : (b : Bool) → (b ≡ true → s ≡ set) → row_of u c s ≡ (if b then (if is_before next c then change (row_of u c s) else row_of u c s) else row_of u c s)
      outer true here = inner (is_before next c) (λ before. noted.clients c s (ap (λ k. finite.get u.clients (key k c)) (here refl) ∙ empty c before))
      outer false here = refl

before_next : (client : ℕ) (next : Option ℕ) → IfSome next (λ n. client < n) → (c : ℕ) → c ≤ client → is_before next c ≡ true
before_next client None above c l = refl
before_next client (Some n) above c l = grind (arith, l, above)

-- one client's row at the set changes, and none between it and the next has one
module _ (client set : ℕ) (next : Option ℕ) (change : Option (List ℤ) → Option (List ℤ)) (none : change None ≡ None) (old : ℕ → ℕ → Option (List ℤ)) (u u' : Rows) (was : (c s : ℕ) → row_of u c s ≡ so_far (Some client) set change old c s) (is : (c s : ℕ) → row_of u' c s ≡ (if is_here client set c s then change (row_of u client set) else row_of u c s)) (noted : IsNoted u') (empty : (c : ℕ) → client < c → is_before next c ≡ true → finite.get u'.clients (key set c) ≡ None) (above : IfSome next (λ n. client < n)) where
  was_at : (c : ℕ) → row_of u c set ≡ (if nat_lt c client then change (old c set) else old c set)
  was_at c = was c set ∙ ap (λ (b : Bool). if b then (if nat_lt c client then change (old c set) else old c set) else old c set) (itself set)

  apart : (c : ℕ) → (c ≡ client → ⊥) → row_of u' c set ≡ row_of u c set
  apart c ne = is c set ∙ ap (λ (b : Bool). if b then change (row_of u client set) else row_of u c set) (is_here_apart client set c set (λ e _. ne e))

  now_before : (c : ℕ) → c < client → row_of u' c set ≡ change (old c set)
  now_before c l =
      let t : nat_lt c client ≡ true = grind (arith, l) in
      apart c (λ e. omega (arith, e, l)) ∙ was_at c ∙ ap (λ (b : Bool). if b then change (old c set) else old c set) t

  as_old : (c : ℕ) → client ≤ c → row_of u c set ≡ old c set
  as_old c l =
      let t : nat_lt c client ≡ false = grind (arith, l) in
      was_at c ∙ ap (λ (b : Bool). if b then change (old c set) else old c set) t

  now_here : row_of u' client set ≡ change (old client set)
  now_here = is client set ∙ ap (λ (b : Bool). if b then change (row_of u client set) else row_of u client set) (is_here_here client set) ∙ ap change (as_old client (omega arith))

  now_after : (c : ℕ) → client < c → row_of u' c set ≡ old c set
  now_after c l = apart c (λ e. omega (arith, e, l)) ∙ as_old c (omega (arith, l))

  between : (c : ℕ) → client < c → (b : Bool) → is_before next c ≡ b → row_of u' c set ≡ (if b then change (old c set) else old c set)
  between c l true before =
      let gone : row_of u' c set ≡ None = noted.clients c set (empty c l before) in
      gone ∙ sym none ∙ ap change (sym gone ∙ now_after c l)
  between c l false before = now_after c l

  not_after : (c : ℕ) → c ≤ client → row_of u' c set ≡ change (old c set) → row_of u' c set ≡ (if is_before next c then change (old c set) else old c set)
  not_after c l e = e ∙ ap (λ (b : Bool). if b then change (old c set) else old c set) (sym (before_next client next above c l))

  at_set : (c : ℕ) → row_of u' c set ≡ (if is_before next c then change (old c set) else old c set)
  at_set c =
      ⊎_elim
      (λ (l : c < client). not_after c (omega (arith, l)) (now_before c l))
      (λ (g : client ≤ c).
      ⊎_elim
      (λ (e : c ≡ client). not_after c (omega (arith, e)) (ap (λ k. row_of u' k set) e ∙ now_here ∙ ap (λ k. change (old k set)) (sym e)))
      (λ (ne : c ≡ client → ⊥). between c (omega (arith, ne, g)) (is_before next c) refl)
      (cases_eq c client))
      (cases_lt c client)

  pub so_far_next : (c s : ℕ) → row_of u' c s ≡ so_far next set change old c s
  so_far_next c s =
      ⊎_elim
      (λ (e : s ≡ set).
      let t : true ≡ (s == set) = grind (arith, e) in
      ap (λ k. row_of u' c k) e ∙ at_set c
      ∙ ap (λ k. if is_before next c then change (old c k) else old c k) (sym e)
      ∙ ap (λ (b : Bool). if b then (if is_before next c then change (old c s) else old c s) else old c s) t)
      (λ (ne : s ≡ set → ⊥).
      let t : (s == set) ≡ false = grind (arith, ne) in
      is c s ∙ ap (λ (b : Bool). if b then change (row_of u client set) else row_of u c s) (is_here_apart client set c s (λ _ e. ne e))
      ∙ was c s
      ∙ ap (λ (b : Bool). if b then (if nat_lt c client then change (old c s) else old c s) else old c s) t
      ∙ ap (λ (b : Bool). if b then (if is_before next c then change (old c s) else old c s) else old c s) (sym t))
      (cases_eq s set)
