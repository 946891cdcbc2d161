-- What a combiner heard of is passed, where it dealt with it.
use Rattle.std.proofs.Common.{◌≡◌, ◌⊎◌, ℕ, Bool, true, List, [], ◌∷◌, ◌++◌, sym, ◌∙◌, inl, inr, ⊎_elim}
use mathlib.Core.Bool.{cond}
use Rattle.pub_rule.specs.declared.work.Mark.{Mark}
use Rattle.pub_rule.specs.declared.work.Stage.{Stage}
use Rattle.pub_rule.specs.declared.work.Stage.TheVariants.{Spent, Maker, Away, Free, Asking, Token}
use Rattle.pub_rule.specs.Work.{IsMarked, IsClient}
use Rattle.pub_rule.specs.WorkSteps.{marks_of, is_own}
use Rattle.pub_rule.proofs.Clients.{by_equal}

-- what is marked where the posts of client r are added
pub marks_are : (r a k : ℕ) (heard passed : List Mark) → IsMarked a k (marks_of r heard ++ passed) → ((a ≡ r) × IsMarked a k heard) ⊎ IsMarked a k passed
marks_are r a k [] passed = λ m. inr m
marks_are r a k (x ∷ xs) passed = by_equal (λ b. IsMarked a k (cond b (x ∷ marks_of r xs) (marks_of r xs) ++ passed) → ((a ≡ r) × IsMarked a k (x ∷ xs)) ⊎ IsMarked a k passed) x.client r
    (λ e m. ⊎_elim (λ (h : (a ≡ x.client) × (k ≡ x.post)). inl (h.0 ∙ e, inl h)) (λ t. behind (marks_are r a k xs passed t)) m) (λ _ m. behind (marks_are r a k xs passed m))
  where
    behind : ((a ≡ r) × IsMarked a k xs) ⊎ IsMarked a k passed → ((a ≡ r) × IsMarked a k (x ∷ xs)) ⊎ IsMarked a k passed
    behind h = ⊎_elim (λ t. inl (t.0, inr t.1)) (λ p. inr p) h

-- and the posts of client r are
pub marks_in : (r k : ℕ) (heard passed : List Mark) → IsMarked r k heard → IsMarked r k (marks_of r heard ++ passed)
marks_in r k [] passed m = absurd m
marks_in r k (x ∷ xs) passed m = by_equal (λ b. IsMarked r k (cond b (x ∷ marks_of r xs) (marks_of r xs) ++ passed)) x.client r
    (λ e. ⊎_elim (λ h. inl h) (λ t. inr (marks_in r k xs passed t)) m) (λ other. ⊎_elim (λ (h : (r ≡ x.client) × (k ≡ x.post)). absurd (other (sym h.0))) (λ t. marks_in r k xs passed t) m)

-- what was marked before still is
pub marks_stay : (r a k : ℕ) (heard passed : List Mark) → IsMarked a k passed → IsMarked a k (marks_of r heard ++ passed)
marks_stay r a k [] passed m = m
marks_stay r a k (x ∷ xs) passed m = by_equal (λ b. IsMarked a k (cond b (x ∷ marks_of r xs) (marks_of r xs) ++ passed)) x.client r (λ _. inr (marks_stay r a k xs passed m)) (λ _. marks_stay r a k xs passed m)

-- whose last post is past where client q was dealt with
pub past_is : {C : Type 0} (p q : ℕ) (stage : Stage C) (b : Bool) → IsClient p stage → cond (is_own q stage) true b ≡ true → (b ≡ true) ⊎ (p ≡ q)
past_is p q Spent b is = λ e. inl e
past_is p q (Maker k) b is = λ e. inl e
past_is p q (Away c) b is = λ e. inl e
past_is p q (Free c) b is = λ e. inl e
past_is p q (Asking c k) b is = by_equal (λ z. cond z true b ≡ true → (b ≡ true) ⊎ (p ≡ q)) q c (λ h _. inr (sym is ∙ sym h)) (λ _ e. inl e)
past_is p q (Token c) b is = λ e. inl e
