-- What a pass deals with.
use Rattle.std.proofs.Common.{◌≡◌, ◌⊎◌, ℕ, ◌+◌, ◌<◌, ◌≤◌, Bool, true, false, List, [], ◌∷◌, ◌++◌, cond, eqb, if◌then◌else◌, ⊎_elim, sym, refl, ap, ◌∙◌, subst, inl, inr, arith, eq-eqb}
use Rattle.std.proofs.lemmas.Bool.{eqb-true, true≢false, cases_Bool, cases_lt}
use Rattle.std.specs.Prelude.{◌==◌, ◌||◌}
use Rattle.pub_rule.specs.declared.work.Mark.{Mark}
use Rattle.pub_rule.specs.declared.walk.View.{View}
use Rattle.pub_rule.specs.declared.work.Work.{Work}
use Rattle.pub_rule.specs.Lists.{IsOn}
use Rattle.pub_rule.specs.Work.{GoesOn, IsMarked}
use Rattle.pub_rule.specs.WorkSteps.{marks_of, is_own}
use Rattle.pub_list.specs.Joined.{is_on}
use Rattle.pub_list.specs.Passing.{HasDealt, KeepsMarks, passed_by}

-- who is on a list
pub on_by : (c : ℕ) (l : List ℕ) → is_on c l ≡ true → IsOn c l
on_by c [] e = absurd (true≢false (sym e))
on_by c (x ∷ l) e = ⊎_elim
    (λ (here : (c == x) ≡ true). inl (eqb-true c x here))
    (λ (other : (c == x) ≡ false). inr (on_by c l (ap (λ b. b || is_on c l) (sym other) ∙ e)))
    (cases_Bool (c == x))

pub on_last : (c x : ℕ) (met : List ℕ) → IsOn c (met ++ x ∷ []) → IsOn c met ⊎ (c ≡ x)
on_last c x [] on = ⊎_elim (λ e. inr e) (λ t. absurd t) on
on_last c x (y ∷ met) on = ⊎_elim (λ e. inl (inl e)) (λ r. ⊎_elim (λ a. inl (inr a)) (λ e. inr e) (on_last c x met r)) on

pub goes_further : {E : Type 0} (a b c : List E) → GoesOn a b → GoesOn b c → GoesOn a c
goes_further a b c h k = (h.0 ++ k.0, k.1 ∙ ap (λ l. l ++ k.0) h.1 ∙ append_all a h.0 k.0)
  where
    append_all : {E : Type 0} (x y z : List E) → (x ++ y) ++ z ≡ x ++ (y ++ z)
    append_all [] y z = refl
    append_all (e ∷ x) y z = ap (λ l. e ∷ l) (append_all x y z)

marked_if : (b : Bool) (r k : ℕ) (x : Mark) (a l : List Mark) → IsMarked r k (a ++ l) → IsMarked r k (cond b (x ∷ a) a ++ l)
marked_if true r k x a l m = inr m
marked_if false r k x a l m = m

marked_on : (r k : ℕ) (heard l : List Mark) → IsMarked r k heard → IsMarked r k (marks_of r heard ++ l)
marked_on r k [] l m = absurd m
marked_on r k (x ∷ heard) l m = ⊎_elim
    (λ (here : (r ≡ x.client) × (k ≡ x.post)). subst (λ b. IsMarked r k (cond b (x ∷ marks_of r heard) (marks_of r heard) ++ l)) (sym (eq-eqb x.client r (sym here.0))) (inl here))
    (λ (there : IsMarked r k heard). marked_if (eqb x.client r) r k x (marks_of r heard) l (marked_on r k heard l there)) m

marked_behind : (r k : ℕ) (a l : List Mark) → IsMarked r k l → IsMarked r k (a ++ l)
marked_behind r k [] l m = m
marked_behind r k (x ∷ a) l m = inr (marked_behind r k a l m)

stays_past : (b past : Bool) → past ≡ true → (if b then true else past) ≡ true
stays_past true past e = refl
stays_past false past e = e

-- after the visits
kept_by : (r k : ℕ) (visits : List ℕ) (heard passed : List Mark) → IsMarked r k passed → IsMarked r k (passed_by visits heard passed)
kept_by r k [] heard passed m = m
kept_by r k (c ∷ cs) heard passed m = kept_by r k cs heard (marks_of c heard ++ passed) (marked_behind r k (marks_of c heard) passed m)

pub marked_by : (r k : ℕ) (visits : List ℕ) (heard passed : List Mark) → IsOn r visits → IsMarked r k heard → IsMarked r k (passed_by visits heard passed)
marked_by r k [] heard passed on m = absurd on
marked_by r k (c ∷ cs) heard passed on m = ⊎_elim
    (λ (here : r ≡ c). kept_by r k cs heard (marks_of c heard ++ passed) (subst (λ q. IsMarked r k (marks_of q heard ++ passed)) here (marked_on r k heard passed m)))
    (λ (there : IsOn r cs). marked_by r k cs heard (marks_of c heard ++ passed) there m)
    on

-- after one visit more
pub passed_last : (x : ℕ) (visits : List ℕ) (heard passed : List Mark) → passed_by (visits ++ x ∷ []) heard passed ≡ marks_of x heard ++ passed_by visits heard passed
passed_last x [] heard passed = refl
passed_last x (c ∷ cs) heard passed = passed_last x cs heard (marks_of c heard ++ passed)

-- one call of the gate more, or none before the first record
pub told_more : (was_told : ℕ → ℕ → Type 0) (n visited : ℕ) → ((k : ℕ) → 1 ≤ k → k < visited → was_told k n) → (1 ≤ visited → was_told visited n)
    → (k : ℕ) → 1 ≤ k → k < visited + 1 → was_told k n
told_more was_told n visited before now k least below = ⊎_elim
    (λ (less : k < visited). before k least less)
    (λ (more : visited ≤ k). let same : visited ≡ k = omega arith in subst (λ j. was_told j n) same (now (omega arith)))
    (cases_lt k visited)

module _ {E C R : Type 0} where
  -- what a combiner that knew v, and visited these clients so far, knows now to be passed
  abbrev pub HasVisited : List ℕ → View (Work E C R) → View (Work E C R) → Type 0
  HasVisited visits v w = w.work.passed ≡ passed_by visits v.work.heard v.work.passed

  abbrev pub HasServed : ℕ → View (Work E C R) → List ℕ → View (Work E C R) → Type 0
  HasServed client v met w = IsOn client met → is_own client v.work.stage ≡ true → w.work.past ≡ true

  -- after one record more
  module _ (x : ℕ) (met : List ℕ) (v u w : View (Work E C R)) (did : HasDealt x u w) where
    pub visited_more : HasVisited met v u → u.work.heard ≡ v.work.heard → HasVisited (met ++ x ∷ []) v w
    visited_more before same = did.0 ∙ ap (λ h. marks_of x h ++ u.work.passed) same
        ∙ ap (λ l. marks_of x v.work.heard ++ l) before ∙ sym (passed_last x met v.work.heard v.work.passed)

    pub served_more : (client : ℕ) → HasServed client v met u → u.work.stage ≡ v.work.stage → HasServed client v (met ++ x ∷ []) w
    served_more client served same on own = did.1 ∙ ⊎_elim
        (λ a. stays_past (is_own x u.work.stage) u.work.past (served a own))
        (λ e. ap (λ b. if b then true else u.work.past) (ap (λ s. is_own x s) same ∙ (ap (λ k. is_own k v.work.stage) (sym e) ∙ own)))
        (on_last client x met on)

    pub marks_more : KeepsMarks v u → KeepsMarks v w
    marks_more kept = (
      did.3 ∙ kept.0,
      (λ r k m. subst (IsMarked r k) (sym did.0) (marked_behind r k (marks_of x u.work.heard) u.work.passed (kept.1 r k m))),
      (λ past. did.1 ∙ stays_past (is_own x u.work.stage) u.work.past (kept.2 past)),
    )
