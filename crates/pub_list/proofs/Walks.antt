-- A walk over a list of distinct clients.
use Rattle.std.proofs.Common.{◌≡◌, ℕ, zero, suc, ◌+◌, ◌<◌, ◌≤◌, List, [], ◌∷◌, ◌++◌, length, take, drop, sym, refl, ap, ◌∙◌, subst, inl, inr, arith, Option, Some, None, length-drop}
use Rattle.std.specs.Option.{unwrap_or}
use Rattle.std.proofs.lemmas.Option.{none-some}
use Rattle.std.proofs.lemmas.List.{take_all}
use Rattle.pub_rule.specs.Lists.{IsOn, Distinct, IsListOf, head_of, after}
use Rattle.pub_rule.proofs.Clients.{by_equal, at_most}
use mathlib.Core.Bool.{cond}

after_suc : (list : List ℕ) (count c : ℕ) → Distinct list → Some c ≡ head_of (drop count list) → IsOn c list × (count < length list) × (after c list ≡ drop (suc count) list) × (take (suc count) list ≡ take count list ++ c ∷ [])
after_suc [] zero c d e = absurd (none-some c (sym e))
after_suc [] (suc count) c d e = absurd (none-some c (sym e))
after_suc (x ∷ xs) zero c d e = let same : c ≡ x = ap (λ (o : Option ℕ). unwrap_or o c) e in (
  inl same,
  omega arith,
  by_equal (λ b. cond b xs (after c xs) ≡ xs) x c (λ _. refl) (λ other. absurd (other (sym same))),
  ap (λ (z : ℕ). z ∷ []) (sym same),
)
after_suc (x ∷ xs) (suc count) c d e = let t = after_suc xs count c d.1 e in let below = t.1 in (
  inr t.0,
  omega arith,
  by_equal (λ b. cond b xs (after c xs) ≡ drop (suc count) xs) x c (λ same. absurd (d.0 (subst (λ (z : ℕ). IsOn z xs) (sym same) t.0))) (λ _. t.2),
  ap (λ (l : List ℕ). x ∷ l) t.3,
)

-- the next record of a list that isn't walked whole
after_drop : (list : List ℕ) (count c : ℕ) → Distinct list → Some c ≡ head_of (drop count list) → IsOn c list × (count < length list) × (after c list ≡ drop (count + 1) list) × (take (count + 1) list ≡ take count list ++ c ∷ [])
after_drop list count c d e = let next : suc count ≡ count + 1 = omega arith in subst (λ (k : ℕ). IsOn c list × (count < length list) × (after c list ≡ drop k list) × (take k list ≡ take count list ++ c ∷ [])) next (after_suc list count c d e)

none_left : (list : List ℕ) → None ≡ head_of list → length list ≡ 0
none_left [] e = refl
none_left (x ∷ xs) e = absurd (none-some x e)

-- a list of n clients of which `count` were visited, and `at` is the next
pub record IsAt (n : ℕ) (list : List ℕ) (count : ℕ) (at : Option ℕ) : Type 0 where
  pub listed : IsListOf n list
  pub few : count ≤ length list
  pub here : at ≡ head_of (drop count list)

pub begins : (n : ℕ) (list : List ℕ) (at : Option ℕ) → IsListOf n list → at ≡ head_of list → IsAt n list 0 at
begins n list at listed e = record { listed = listed; few = omega arith; here = e }

pub at_next : (n : ℕ) (list : List ℕ) (count c : ℕ) (at : Option ℕ) → IsAt n list count at → at ≡ Some c
    → IsOn c list × (c < n) × (count < length list) × (length list ≤ n) × (take (count + 1) list ≡ take count list ++ c ∷ [])
at_next n list count c at i is = let t = after_drop list count c i.listed.0 (sym is ∙ i.here) in (t.0, i.listed.1 c t.0, t.1, at_most n list i.listed, t.3)

pub moves_on : (n : ℕ) (list again : List ℕ) (count c : ℕ) (at next : Option ℕ) → IsAt n list count at → at ≡ Some c → again ≡ list → next ≡ head_of (after c again) → IsAt n again (count + 1) next
moves_on n list again count c at next i is same e = let t = after_drop list count c i.listed.0 (sym is ∙ i.here) in let below = t.1 in subst (λ (l : List ℕ). IsAt n l (count + 1) next) (sym same) record {
  listed = i.listed;
  few = omega arith;
  here = e ∙ (ap (λ (l : List ℕ). head_of (after c l)) same ∙ ap head_of t.2);
}

-- and all of them were visited
pub count_at_end : (n : ℕ) (list : List ℕ) (count : ℕ) (at : Option ℕ) → IsAt n list count at → at ≡ None → count ≡ length list
count_at_end n list count at i is = let few = i.few in let size = length-drop count list in let left = none_left (drop count list) (sym is ∙ i.here) in omega arith

pub at_end : (n : ℕ) (list : List ℕ) (count : ℕ) (at : Option ℕ) → IsAt n list count at → at ≡ None → take count list ≡ list
at_end n list count at i is = let few = i.few in let size = length-drop count list in let left = none_left (drop count list) (sym is ∙ i.here) in take_all count list (omega arith)
