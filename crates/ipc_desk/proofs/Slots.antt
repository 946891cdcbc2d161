-- What a change of a slot leaves in each.
use Rattle.std.proofs.Common.{◌≡◌, ◌≢◌, ℕ, zero, suc, ◌+◌, ◌<◌, ◌≤◌, Bool, true, false, cond, List, [], ◌∷◌, ◌++◌, map, length, refl, sym, ap, ◌∙◌, subst, arith, Option, Some, None, length-append, ⊎_elim}
use Rattle.std.specs.Prelude.{◌==◌, filter, slice_get, slice_set}
use Rattle.std.proofs.lemmas.Bool.{cases_Bool, eqb-true, eq-eqb, true≢false}
use Rattle.ipc_call.specs.declared.replies.Reply.{Reply}
use Rattle.ipc_space.specs.Telling.{replies_in}
use Rattle.ipc_desk.specs.Kept.{kept_for, kept_in}

pub slice_get-set_same : {X : Type 0} (xs : List X) (i : ℕ) (x : X) → i < length xs → slice_get (slice_set xs i x) i ≡ Some x
slice_get-set_same [] i x within = absurd (omega (arith, within))
slice_get-set_same (y ∷ xs) zero x within = refl
slice_get-set_same (y ∷ xs) (suc i) x within = slice_get-set_same xs i x (omega (arith, within))

pub slice_get-set_other : {X : Type 0} (xs : List X) (i k : ℕ) (x : X) → i ≢ k → slice_get (slice_set xs i x) k ≡ slice_get xs k
slice_get-set_other [] i k x other = refl
slice_get-set_other (y ∷ xs) zero zero x other = absurd (other refl)
slice_get-set_other (y ∷ xs) zero (suc k) x other = refl
slice_get-set_other (y ∷ xs) (suc i) zero x other = refl
slice_get-set_other (y ∷ xs) (suc i) (suc k) x other = slice_get-set_other xs i k x (λ same. other (ap suc same))

pub length-slice_set : {X : Type 0} (xs : List X) (i : ℕ) (x : X) → length (slice_set xs i x) ≡ length xs
length-slice_set [] i x = refl
length-slice_set (y ∷ xs) zero x = refl
length-slice_set (y ∷ xs) (suc i) x = ap suc (length-slice_set xs i x)

few_none : {X : Type 0} (xs ys : List X) (x : X) → length (xs ++ x ∷ ys) ≤ 1 → xs ≡ []
few_none [] ys x few = refl
few_none (z ∷ xs) ys x few = absurd (omega (arith, few, length-append xs (x ∷ ys)))

-- one reply more is kept, and is no longer to be kept
module _ (slots : List (Option Reply)) (client : ℕ) (reply : Reply) (rest : List (ℕ × Reply)) (within : client < length slots) where
  behind : (b : Bool) (r : ℕ) → (client == r) ≡ b
      → length (kept_for slots r ++ map (λ (t : ℕ × Reply). t.1) (cond b ((client, reply) ∷ filter (λ t. t.0 == r) rest) (filter (λ t. t.0 == r) rest))) ≤ 1
      → kept_for (slice_set slots client (Some reply)) r ++ replies_in rest r ≡ kept_for slots r ++ map (λ (t : ℕ × Reply). t.1) (cond b ((client, reply) ∷ filter (λ t. t.0 == r) rest) (filter (λ t. t.0 == r) rest))
  behind true r is few =
      let same : client ≡ r = eqb-true client r is in
      let none : kept_for slots r ≡ [] = few_none (kept_for slots r) (replies_in rest r) reply few in
      let here : kept_for (slice_set slots client (Some reply)) r ≡ reply ∷ [] =
      subst (λ (k : ℕ). kept_for (slice_set slots client (Some reply)) k ≡ reply ∷ []) same (ap kept_in (slice_get-set_same slots client (Some reply) within)) in
      ap (λ l. l ++ replies_in rest r) here ∙ ap (λ l. l ++ reply ∷ replies_in rest r) (sym none)
  behind false r is few = ap (λ o. kept_in o ++ replies_in rest r) (slice_get-set_other slots client r (Some reply) (λ same. true≢false (sym (eq-eqb client r same) ∙ is)))

  pub kept-put : (r : ℕ) → length (kept_for slots r ++ replies_in ((client, reply) ∷ rest) r) ≤ 1
      → kept_for (slice_set slots client (Some reply)) r ++ replies_in rest r ≡ kept_for slots r ++ replies_in ((client, reply) ∷ rest) r
  kept-put r few = behind (client == r) r refl few
