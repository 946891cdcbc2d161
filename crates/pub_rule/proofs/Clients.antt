-- Lists of clients.
use Rattle.std.proofs.Common.{◌≡◌, ◌≢◌, ◌⊎◌, ℕ, Bool, true, false, eqb, ◌<◌, ◌≤◌, List, [], ◌∷◌, ◌++◌, length, get_or, sym, refl, ap, ◌∙◌, subst, inl, inr, ⊎_elim, arith, eq-eqb, ne_eqb, length-append}
use mathlib.Core.Bool.{cond, ◌||◌}
use Rattle.std.proofs.lemmas.Bool.{false≢true}
use Rattle.std.specs.List.{IsDistinct, list_any, AllByRecursion}
use Rattle.std.proofs.lemmas.Map.Steps.{length-le_from_distinct_below}
use mathlib.Core.Logic.{dite}
use native.Mathlib.Decide.{ℕ_discrete}
use Rattle.pub_rule.specs.Lists.{IsOn, Distinct, IsListOf, EndsWith, link_to, after}
use Rattle.pub_rule.specs.Words.{next_word}
use Rattle.pub_rule.specs.Walk.{Linked}

-- the part of the list from client c on
abbrev pub from : ℕ → List ℕ → List ℕ
from c [] = []
from c (x ∷ xs) = cond (eqb x c) (x ∷ xs) (from c xs)

-- a test of two numbers, by cases
pub by_equal : (F : Bool → Type 0) (x y : ℕ) → (x ≡ y → F true) → (x ≢ y → F false) → F (eqb x y)
by_equal F x y hit miss = dite (ℕ_discrete x y) (λ e. subst F (sym (eq-eqb x y e)) (hit e)) (λ other. subst F (sym (ne_eqb x y other)) (miss other))

pub on_or_off : (c : ℕ) (list : List ℕ) → Dec (IsOn c list)
on_or_off c [] = no (λ h. h)
on_or_off c (x ∷ xs) = dite (ℕ_discrete c x) (λ e. yes (inl e)) (λ other. elim (on_or_off c xs) [ yes h ↦ yes (inr h) | no h ↦ no (λ t. ⊎_elim other h t) ])

pub on_behind : (c : ℕ) (front list : List ℕ) → IsOn c list → IsOn c (front ++ list)
on_behind c [] list h = h
on_behind c (x ∷ xs) list h = inr (on_behind c xs list h)

pub on_in_front : (c : ℕ) (front list : List ℕ) → IsOn c (front ++ list) → IsOn c front ⊎ IsOn c list
on_in_front c [] list h = inr h
on_in_front c (x ∷ xs) list h = ⊎_elim (λ e. inl (inl e)) (λ t. ⊎_elim (λ f. inl (inr f)) (λ l. inr l) (on_in_front c xs list t)) h

-- the ends of a list
pub ends_with_all : (list : List ℕ) → EndsWith list list
ends_with_all list = ([], refl)

pub ends_longer : (c : ℕ) (list part : List ℕ) → EndsWith list part → EndsWith (c ∷ list) part
ends_longer c list part e = (c ∷ e.0, ap (λ (l : List ℕ). c ∷ l) e.1)

pub on_end : (c : ℕ) (list part : List ℕ) → EndsWith list part → IsOn c part → IsOn c list
on_end c list part e h = subst (IsOn c) (sym e.1) (on_behind c e.0 part h)

pub end_shorter : (list part : List ℕ) → EndsWith list part → length part ≤ length list
end_shorter list part e = let size = ap length e.1 ∙ length-append e.0 part in omega arith

same_front : (front part : List ℕ) → Distinct (front ++ part) → link_to (front ++ part) ≡ link_to part → front ++ part ≡ part
same_front [] part d e = refl
same_front (f ∷ fs) [] d e = absurd (omega arith)
same_front (f ∷ fs) (c ∷ cs) d e = absurd (d.0 (on_behind f fs (c ∷ cs) (inl (omega arith))))

-- the head led to this list before: it is the list still
pub same_head : (list part : List ℕ) → Distinct list → EndsWith list part → link_to list ≡ link_to part → list ≡ part
same_head list part d e same = e.1 ∙ same_front e.0 part (subst Distinct e.1 d) (ap link_to (sym e.1) ∙ same)

longer_front : (front part : List ℕ) → link_to (front ++ part) ≢ link_to part → length part < length (front ++ part)
longer_front [] part other = absurd (other refl)
longer_front (f ∷ fs) part other = let size = length-append fs part in omega arith

-- the head led elsewhere before: the list has grown
pub other_head : (list part : List ℕ) → EndsWith list part → link_to list ≢ link_to part → length part < length list
other_head list part e other = subst (λ (l : List ℕ). length part < length l) (sym e.1) (longer_front e.0 part (λ same. other (ap link_to e.1 ∙ same)))

-- the part from a client on
pub from_ends : (c : ℕ) (list : List ℕ) → IsOn c list → EndsWith list (from c list)
from_ends c [] h = absurd h
from_ends c (x ∷ xs) h = by_equal (λ b. EndsWith (x ∷ xs) (cond b (x ∷ xs) (from c xs))) x c (λ _. ends_with_all (x ∷ xs))
    (λ other. ends_longer x xs (from c xs) (from_ends c xs (⊎_elim (λ e. absurd (other (sym e))) (λ t. t) h)))

pub on_from : (c : ℕ) (list : List ℕ) → IsOn c list → IsOn c (from c list)
on_from c [] h = h
on_from c (x ∷ xs) h = by_equal (λ b. IsOn c (cond b (x ∷ xs) (from c xs))) x c (λ e. inl (sym e)) (λ other. on_from c xs (⊎_elim (λ e. absurd (other (sym e))) (λ t. t) h))

from_longer : (c : ℕ) (front part : List ℕ) → ¬ IsOn c part → IsOn c (front ++ part) → EndsWith (from c (front ++ part)) part
from_longer c [] part off h = absurd (off h)
from_longer c (f ∷ fs) part off h = by_equal (λ b. EndsWith (cond b (f ∷ (fs ++ part)) (from c (fs ++ part))) part) f c (λ _. (f ∷ fs, refl))
    (λ other. from_longer c fs part off (⊎_elim (λ e. absurd (other (sym e))) (λ t. t) h))

-- a client that isn't on an end stands before it
pub from_before : (c : ℕ) (list part : List ℕ) → EndsWith list part → ¬ IsOn c part → IsOn c list → EndsWith (from c list) part
from_before c list part e off h = subst (λ (l : List ℕ). EndsWith (from c l) part) (sym e.1) (from_longer c e.0 part off (subst (IsOn c) e.1 h))

-- what is behind a client
pub after_from : (c : ℕ) (list : List ℕ) → after c (from c list) ≡ after c list
after_from c [] = refl
after_from c (x ∷ xs) = by_equal (λ b. after c (cond b (x ∷ xs) (from c xs)) ≡ cond b xs (after c xs)) x c
    (λ e. by_equal (λ b. cond b xs (after c xs) ≡ xs) x c (λ _. refl) (λ other. absurd (other e))) (λ _. after_from c xs)

after_front : (c : ℕ) (front part : List ℕ) → Distinct (front ++ part) → IsOn c part → after c (front ++ part) ≡ after c part
after_front c [] part d h = refl
after_front c (f ∷ fs) part d h = by_equal (λ b. cond b (fs ++ part) (after c (fs ++ part)) ≡ after c part) f c
    (λ e. absurd (d.0 (subst (λ (x : ℕ). IsOn x (fs ++ part)) (sym e) (on_behind c fs part h)))) (λ _. after_front c fs part d.1 h)

pub after_end : (c : ℕ) (list part : List ℕ) → Distinct list → EndsWith list part → IsOn c part → after c list ≡ after c part
after_end c list part d e h = ap (after c) e.1 ∙ after_front c e.0 part (subst Distinct e.1 d) h

distinct_end : (front part : List ℕ) → Distinct (front ++ part) → Distinct part
distinct_end [] part d = d
distinct_end (f ∷ fs) part d = distinct_end fs part d.1

-- an end of a list of clients is one
pub list_end : (n : ℕ) (list part : List ℕ) → IsListOf n list → EndsWith list part → IsListOf n part
list_end n list part l e = (distinct_end e.0 part (subst Distinct e.1 l.0), λ c h. l.1 c (on_end c list part e h))

-- distinct clients below n are at most n
off_by : (c : ℕ) (list : List ℕ) → ¬ IsOn c list → AllByRecursion (λ y. eqb c y ≡ false) list
off_by c [] h = tt
off_by c (x ∷ xs) h = (ne_eqb c x (λ e. h (inl e)), off_by c xs (λ t. h (inr t)))

distinct_by : (list : List ℕ) → Distinct list → IsDistinct eqb list
unfolding IsDistinct
distinct_by [] d = tt
distinct_by (c ∷ cs) d = (off_by c cs d.0, distinct_by cs d.1)

on_by : (c : ℕ) (list : List ℕ) → list_any (eqb c) list ≡ true → IsOn c list
on_by c [] e = absurd (false≢true e)
on_by c (x ∷ xs) t = by_equal (λ b. (b || list_any (eqb c) xs) ≡ true → IsOn c (x ∷ xs)) c x (λ e _. inl e) (λ _ u. inr (on_by c xs u)) t

pub at_most : (n : ℕ) (list : List ℕ) → IsListOf n list → length list ≤ n
at_most n list l = length-le_from_distinct_below list n (distinct_by list l.0) (λ q t. l.1 q (on_by q list t))

-- the words of a list
pub listed_below : (made : ℕ) (words list : List ℕ) (c : ℕ) → Linked made words list → IsOn c list → c < made
listed_below made words [] c l h = absurd h
listed_below made words (x ∷ xs) c l h = ⊎_elim (λ e. subst (λ (z : ℕ). z < made) (sym e) l.0) (λ t. listed_below made words xs c l.2 t) h

pub link_after : (made : ℕ) (words list : List ℕ) (c : ℕ) → Linked made words list → IsOn c list → get_or words (next_word c) 0 ≡ link_to (after c list)
link_after made words [] c l h = absurd h
link_after made words (x ∷ xs) c l h = by_equal (λ b. get_or words (next_word c) 0 ≡ link_to (cond b xs (after c xs))) x c
    (λ e. subst (λ (z : ℕ). get_or words (next_word z) 0 ≡ link_to xs) e l.1)
    (λ other. link_after made words xs c l.2 (⊎_elim (λ e. absurd (other (sym e))) (λ t. t) h))

pub linked_still : (made made' : ℕ) (words words' list : List ℕ) → made ≤ made' → ((c : ℕ) → IsOn c list → get_or words' (next_word c) 0 ≡ get_or words (next_word c) 0) → Linked made words list → Linked made' words' list
linked_still made made' words words' [] more same l = tt
linked_still made made' words words' (x ∷ xs) more same l =
    let below = l.0 in (omega arith, same x (inl refl) ∙ l.1, linked_still made made' words words' xs more (λ c h. same c (inr h)) l.2)
