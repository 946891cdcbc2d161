-- To whom the words of a list lead is on it.
use Rattle.std.proofs.Common.{ℕ, List, [], ◌∷◌, Option, Some, None, IfSome, refl, inl, inr}
use Rattle.pub_rule.specs.Lists.{IsOn, head_of, after}
use Rattle.pub_rule.proofs.Clients.{by_equal}
use mathlib.Core.Bool.{cond}

pub head_is_on : (list : List ℕ) → IfSome (head_of list) (λ c. IsOn c list)
head_is_on [] = tt
head_is_on (x ∷ xs) = inl refl

on_longer : (x : ℕ) (list : List ℕ) (at : Option ℕ) → IfSome at (λ c. IsOn c list) → IfSome at (λ c. IsOn c (x ∷ list))
on_longer x list (Some c) on = inr on
on_longer x list None none = tt

pub next_is_on : (client : ℕ) (list : List ℕ) → IfSome (head_of (after client list)) (λ c. IsOn c list)
next_is_on client [] = tt
next_is_on client (x ∷ xs) = by_equal (λ b. IfSome (head_of (cond b xs (after client xs))) (λ c. IsOn c (x ∷ xs))) x client
    (λ _. on_longer x xs (head_of xs) (head_is_on xs))
    (λ _. on_longer x xs (head_of (after client xs)) (next_is_on client xs))
