-- Lists of waiting calls: filters, the first that passes a test, and what holds of each.
use Rattle.std.proofs.Common.{◌≡◌, ◌≤◌, ℕ, ◌+◌, Bool, true, false, cond, List, [], ◌∷◌, ◌++◌, length, refl, sym, ap, subst, ◌∙◌, ⊎_elim, arith, Some, None}
use Rattle.std.specs.Prelude.{◌==◌, not, filter}
use Rattle.std.specs.List.{AllByRecursion, count_by, find}
use Rattle.std.proofs.lemmas.Bool.{cases_Bool, eq-eqb, true≢false}
use Rattle.std.proofs.lemmas.List.Sums.{sum_by-cons}
use Rattle.std.proofs.lemmas.Option.{none-some, same_Some}
use Rattle.ipc_call.specs.declared.replies.Waiting.{Waiting}

module _ (test : Waiting → Bool) where
  pub filter-here : (w : Waiting) (ws : List Waiting) → test w ≡ true → filter test (w ∷ ws) ≡ w ∷ filter test ws
  filter-here w ws is = rw is refl

  pub filter-not : (w : Waiting) (ws : List Waiting) → test w ≡ false → filter test (w ∷ ws) ≡ filter test ws
  filter-not w ws isnt = rw isnt refl

  pub filter-all : (ws : List Waiting) → AllByRecursion (λ w. test w ≡ true) ws → filter test ws ≡ ws
  filter-all [] all = refl
  filter-all (w ∷ ws) all = filter-here w ws all.0 ∙ ap (λ l. w ∷ l) (filter-all ws all.1)

  pub filter-shorter : (ws : List Waiting) → length (filter test ws) ≤ length ws
  filter-shorter [] = omega arith
  filter-shorter (w ∷ ws) =
      let rest = filter-shorter ws in
      ⊎_elim (λ (yes : test w ≡ true). rw yes (omega (arith, rest))) (λ (no : test w ≡ false). rw no (omega (arith, rest))) (cases_Bool (test w))

  -- what a find says
  pub find-here : (w : Waiting) (ws : List Waiting) → test w ≡ true → find test (w ∷ ws) ≡ Some w
  find-here w ws is = rw is refl

  pub find-not : (w : Waiting) (ws : List Waiting) → test w ≡ false → find test (w ∷ ws) ≡ find test ws
  find-not w ws isnt = rw isnt refl

  pub none-passes : (ws : List Waiting) → find test ws ≡ None → AllByRecursion (λ w. test w ≡ false) ws
  none-passes [] none = tt
  none-passes (w ∷ ws) none = ⊎_elim
      (λ (yes : test w ≡ true). absurd (none-some w (sym none ∙ find-here w ws yes)))
      (λ (no : test w ≡ false). (no, none-passes ws (sym (find-not w ws no) ∙ none)))
      (cases_Bool (test w))

  pub none-found : (ws : List Waiting) → AllByRecursion (λ w. test w ≡ false) ws → find test ws ≡ None
  none-found [] all = refl
  none-found (w ∷ ws) all = find-not w ws all.0 ∙ none-found ws all.1

  pub all-found : (P : Waiting → Type 0) (ws : List Waiting) (w : Waiting) → AllByRecursion P ws → find test ws ≡ Some w → P w × (test w ≡ true)
  all-found P [] w all found = absurd (none-some w found)
  all-found P (v ∷ ws) w all found = ⊎_elim
      (λ (yes : test v ≡ true). let same = same_Some v w (sym (find-here v ws yes) ∙ found) in (subst P same all.0, ap test (sym same) ∙ yes))
      (λ (no : test v ≡ false). all-found P ws w all.1 (sym (find-not v ws no) ∙ found))
      (cases_Bool (test v))

module _ (P : Waiting → Type 0) where
  pub all-filter : (test : Waiting → Bool) (ws : List Waiting) → AllByRecursion P ws → AllByRecursion P (filter test ws)
  all-filter test [] all = tt
  all-filter test (w ∷ ws) all = ⊎_elim
      (λ (yes : test w ≡ true). rw yes (all.0, all-filter test ws all.1))
      (λ (no : test w ≡ false). rw no (all-filter test ws all.1))
      (cases_Bool (test w))

  pub all-push : (ws : List Waiting) (w : Waiting) → AllByRecursion P ws → P w → AllByRecursion P (ws ++ w ∷ [])
  all-push [] w all p = (p, tt)
  all-push (v ∷ ws) w all p = (all.0, all-push ws w all.1 p)

  pub all-map : (Q : Waiting → Type 0) → ((w : Waiting) → P w → Q w) → (ws : List Waiting) → AllByRecursion P ws → AllByRecursion Q ws
  all-map Q f [] all = tt
  all-map Q f (w ∷ ws) all = (f w all.0, all-map Q f ws all.1)

-- two filters
module _ (p q : Waiting → Bool) where
  pub filter-finer : ((w : Waiting) → p w ≡ true → q w ≡ true) → (ws : List Waiting) → filter p (filter q ws) ≡ filter p ws
  filter-finer finer [] = refl
  filter-finer finer (w ∷ ws) = ⊎_elim
      (λ (yes : p w ≡ true). let wider = finer w yes in rw wider (rw yes (ap (λ l. w ∷ l) (filter-finer finer ws))))
      (λ (no : p w ≡ false).
      ⊎_elim (λ (seen : q w ≡ true). rw seen (rw no (filter-finer finer ws))) (λ (unseen : q w ≡ false). rw unseen (rw no (filter-finer finer ws))) (cases_Bool (q w)))
      (cases_Bool (p w))

  pub filter-turned : (ws : List Waiting) → filter p (filter q ws) ≡ filter q (filter p ws)
  filter-turned [] = refl
  filter-turned (w ∷ ws) = ⊎_elim
      (λ (yes : p w ≡ true).
      ⊎_elim (λ (seen : q w ≡ true). rw seen (rw yes (rw seen (ap (λ l. w ∷ l) (filter-turned ws))))) (λ (unseen : q w ≡ false). rw unseen (rw yes (rw unseen (filter-turned ws)))) (cases_Bool (q w)))
      (λ (no : p w ≡ false).
      ⊎_elim (λ (seen : q w ≡ true). rw seen (rw no (filter-turned ws))) (λ (unseen : q w ≡ false). rw unseen (rw no (filter-turned ws))) (cases_Bool (q w)))
      (cases_Bool (p w))

-- a test p on a list, and a test r that gives the same where q passes
module _ (p r q : Waiting → Bool) (alike : (w : Waiting) → q w ≡ true → r w ≡ p w) where
  pub find-none : (ws : List Waiting) → find p ws ≡ None → find r (filter q ws) ≡ None
  find-none [] none = refl
  find-none (w ∷ ws) none = ⊎_elim
      (λ (yes : p w ≡ true). absurd (none-some w (sym none ∙ find-here p w ws yes)))
      (λ (no : p w ≡ false).
      let later = find-none ws (sym (find-not p w ws no) ∙ none) in
      ⊎_elim
      (λ (seen : q w ≡ true). ap (find r) (filter-here q w ws seen) ∙ find-not r w (filter q ws) (alike w seen ∙ no) ∙ later)
      (λ (unseen : q w ≡ false). ap (find r) (filter-not q w ws unseen) ∙ later)
      (cases_Bool (q w)))
      (cases_Bool (p w))

  pub find-seen : (ws : List Waiting) (w : Waiting) → find p ws ≡ Some w → q w ≡ true → find r (filter q ws) ≡ Some w
  find-seen [] w found seen = absurd (none-some w found)
  find-seen (v ∷ ws) w found seen = ⊎_elim
      (λ (yes : p v ≡ true).
      let same = same_Some v w (sym (find-here p v ws yes) ∙ found) in
      let here : q v ≡ true = ap q same ∙ seen in
      ap (find r) (filter-here q v ws here) ∙ find-here r v (filter q ws) (alike v here ∙ yes) ∙ ap (λ (x : Waiting). Some x) same)
      (λ (no : p v ≡ false).
      let later = find-seen ws w (sym (find-not p v ws no) ∙ found) seen in
      ⊎_elim
      (λ (here : q v ≡ true). ap (find r) (filter-here q v ws here) ∙ find-not r v (filter q ws) (alike v here ∙ no) ∙ later)
      (λ (unseen : q v ≡ false). ap (find r) (filter-not q v ws unseen) ∙ later)
      (cases_Bool (q v)))
      (cases_Bool (p v))

-- how many pass, of those that are left
pub count-kept : (p r q : Waiting → Bool) → ((w : Waiting) → q w ≡ true → r w ≡ p w) → ((w : Waiting) → q w ≡ false → p w ≡ false) → (ws : List Waiting) → count_by r (filter q ws) ≡ count_by p ws
count-kept p r q alike never [] = refl
count-kept p r q alike never (w ∷ ws) =
    let rest = count-kept p r q alike never ws in
    let whole : count_by p (w ∷ ws) ≡ cond (p w) 1 0 + count_by p ws = sum_by-cons (λ x. cond (p x) 1 0) w ws in
    ⊎_elim
    (λ (seen : q w ≡ true).
    ap (count_by r) (filter-here q w ws seen) ∙ sum_by-cons (λ x. cond (r x) 1 0) w (filter q ws) ∙ (λ i. cond (alike w seen i) 1 0 + rest i) ∙ sym whole)
    (λ (unseen : q w ≡ false).
    ap (count_by r) (filter-not q w ws unseen) ∙ rest ∙ sym (whole ∙ ap (λ b. cond b 1 0 + count_by p ws) (never w unseen) ∙ none (count_by p ws)))
    (cases_Bool (q w))
  where
    none : (n : ℕ) → 0 + n ≡ n
    none n = omega arith

-- the calls of the other clients
abbrev pub others : ℕ → List Waiting → List Waiting
others client ws = filter (λ w. not (w.client == client)) ws

-- who leaves the list shortens it
pub shorter-others : (test : Waiting → Bool) (ws : List Waiting) (w : Waiting) → find test ws ≡ Some w → length (others w.client ws) + 1 ≤ length ws
shorter-others test [] w found = absurd (none-some w found)
shorter-others test (v ∷ ws) w found = ⊎_elim
    (λ (own : (v.client == w.client) ≡ true). let rest = filter-shorter (λ u. not (u.client == w.client)) ws in rw own (omega (arith, rest)))
    (λ (other : (v.client == w.client) ≡ false).
    ⊎_elim
    (λ (yes : test v ≡ true). absurd (true≢false (sym (eq-eqb v.client w.client (ap (λ (u : Waiting). u.client) (same_Some v w (sym (find-here test v ws yes) ∙ found)))) ∙ other)))
    (λ (no : test v ≡ false). let rest = shorter-others test ws w (sym (find-not test v ws no) ∙ found) in rw other (omega (arith, rest)))
    (cases_Bool (test v)))
    (cases_Bool (v.client == w.client))
