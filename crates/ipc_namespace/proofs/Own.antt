-- The waiting call of a client in the list: where it stands, and what is left without it.
use Rattle.std.proofs.Common.{◌≡◌, ℕ, zero, suc, ◌+◌, ◌≤◌, Bool, true, false, List, [], ◌∷◌, ◌++◌, length, length-append, refl, sym, ap, subst, ◌∙◌, arith, ⊎_elim, Option, Some, None}
use Rattle.std.specs.Prelude.{◌==◌, not, filter, slice_get, IfSome, option_map, option_and_then}
use Rattle.std.specs.List.{find, list_any, AllByRecursion}
use Rattle.std.proofs.lemmas.Bool.{cases_Bool, eq-eqb, eqb-true, or_parts, false≢true}
use Rattle.std.proofs.lemmas.Option.{none-some, same_Some}
use Rattle.ipc_call.specs.declared.replies.Waiting.{Waiting}
use Rattle.ipc_parked.specs.Parked.{AreApart}
use Rattle.ipc_namespace.proofs.Parked.{apart-filter, turned}

abbrev pub others : ℕ → List Waiting → List Waiting
others client ws = filter (λ w. not (w.client == client)) ws

others-free : (client : ℕ) (ws : List Waiting) → list_any (λ w. w.client == client) ws ≡ false → others client ws ≡ ws
others-free client [] free = refl
others-free client (w ∷ ws) free =
    let parts = or_parts (w.client == client) (list_any (λ v. v.client == client) ws) free in
    let apart = parts.0 in
    rw apart (ap (λ (vs : List Waiting). w ∷ vs) (others-free client ws parts.1))

pub none-found : (any test : Waiting → Bool) (ws : List Waiting) (w : Waiting) → list_any any ws ≡ false → find test ws ≡ Some w → any w ≡ false
none-found any test [] w none found = absurd (none-some w found)
none-found any test (v ∷ ws) w none found =
    ⊎_elim
    (λ (yes : test v ≡ true).
    let first : Some v ≡ Some w = rw yes at found in
    ap any (sym (same_Some v w first)) ∙ (or_parts (any v) (list_any any ws) none).0)
    (λ (no : test v ≡ false).
    let later : find test ws ≡ Some w = rw no at found in
    none-found any test ws w (or_parts (any v) (list_any any ws) none).1 later)
    (cases_Bool (test v))

-- the first that passes: what stands before and after it, which is what is left without its client
pub record At (test : Waiting → Bool) (ws : List Waiting) (w : Waiting) : Type 0 where
  pub before : List Waiting
  pub after : List Waiting
  pub is : ws ≡ before ++ w ∷ after
  pub fails : AllByRecursion (λ v. test v ≡ false) before
  pub passes : test w ≡ true
  pub own : find (λ v. v.client == w.client) ws ≡ Some w
  pub left : others w.client ws ≡ before ++ after

pub found-at : (test : Waiting → Bool) (ws : List Waiting) (w : Waiting) → AreApart ws → find test ws ≡ Some w → At test ws w
unfolding AreApart
found-at test [] w apart found = absurd (none-some w found)
found-at test (v ∷ ws) w apart found =
    ⊎_elim
    (λ (yes : test v ≡ true).
    let first : Some v ≡ Some w = rw yes at found in
    let own : (v.client == v.client) ≡ true = eq-eqb v.client v.client refl in
    subst (λ u. At test (v ∷ ws) u) (same_Some v w first) (record {
      before = [];
      after = ws;
      is = refl;
      fails = tt;
      passes = yes;
      own = rw own refl;
      left = rw own (others-free v.client ws apart.0);
    }))
    (λ (no : test v ≡ false).
    let later : find test ws ≡ Some w = rw no at found in
    let rest = found-at test ws w apart.1 later in
    let other : (v.client == w.client) ≡ false = turned w.client v.client (none-found (λ u. u.client == v.client) test ws w apart.0 later) in
    record {
      before = v ∷ rest.before;
      after = rest.after;
      is = ap (λ (us : List Waiting). v ∷ us) rest.is;
      fails = (no, rest.fails);
      passes = rest.passes;
      own = rw other rest.own;
      left = rw other (ap (λ (us : List Waiting). v ∷ us) rest.left);
    })
    (cases_Bool (test v))

pub found-passes : (test : Waiting → Bool) (ws : List Waiting) (o : Option Waiting) → find test ws ≡ o → IfSome o (λ w. test w ≡ true)
found-passes test ws None found = tt
found-passes test [] (Some w) found = absurd (none-some w found)
found-passes test (v ∷ ws) (Some w) found =
    ⊎_elim
    (λ (yes : test v ≡ true). let first : Some v ≡ Some w = rw yes at found in ap test (sym (same_Some v w first)) ∙ yes)
    (λ (no : test v ≡ false). let later : find test ws ≡ Some w = rw no at found in found-passes test ws (Some w) later)
    (cases_Bool (test v))

-- where nothing passes, each fails
pub found-none : (test : Waiting → Bool) (ws : List Waiting) → find test ws ≡ None → AllByRecursion (λ w. test w ≡ false) ws
found-none test [] none = tt
found-none test (v ∷ ws) none =
    ⊎_elim
    (λ (yes : test v ≡ true). let first : Some v ≡ None = rw yes at none in absurd (none-some v (sym first)))
    (λ (no : test v ≡ false). let later : find test ws ≡ None = rw no at none in (no, found-none test ws later))
    (cases_Bool (test v))

pub none-first : (test : Waiting → Bool) (ws : List Waiting) (o : Option Waiting) → find test ws ≡ o → None ≡ option_map (λ w. w.client) o → find test ws ≡ None
none-first test ws None found is = found
none-first test ws (Some w) found is = absurd (none-some w.client is)

-- where a call of the client waits, it is found
pub own-there : (client : ℕ) (ws : List Waiting) → list_any (λ w. w.client == client) ws ≡ true → (w : Waiting) × (find (λ v. v.client == client) ws ≡ Some w) × (w.client ≡ client)
own-there client [] there = absurd (false≢true there)
own-there client (w ∷ ws) there =
    ⊎_elim
    (λ (own : (w.client == client) ≡ true). (w, rw own refl, eqb-true w.client client own))
    (λ (other : (w.client == client) ≡ false).
    let later : list_any (λ v. v.client == client) ws ≡ true = rw other at there in
    let rest = own-there client ws later in
    (rest.0, rw other rest.1, rest.2))
    (cases_Bool (w.client == client))

-- the client of what was found waits
pub found-there : (test : Waiting → Bool) (ws : List Waiting) (w : Waiting) → find test ws ≡ Some w → list_any (λ v. v.client == w.client) ws ≡ true
found-there test [] w found = absurd (none-some w found)
found-there test (v ∷ ws) w found =
    ⊎_elim
    (λ (yes : test v ≡ true).
    let first : Some v ≡ Some w = rw yes at found in
    rw (eq-eqb v.client w.client (ap (λ (u : Waiting). u.client) (same_Some v w first))) refl)
    (λ (no : test v ≡ false).
    let later : find test ws ≡ Some w = rw no at found in
    let there = found-there test ws w later in
    ⊎_elim (λ (own : (v.client == w.client) ≡ true). rw own refl) (λ (other : (v.client == w.client) ≡ false). rw other there) (cases_Bool (v.client == w.client)))
    (cases_Bool (test v))

pub found-waits : (test : Waiting → Bool) (ws : List Waiting) (o : Option Waiting) → find test ws ≡ o → IfSome (option_map (λ w. w.client) o) (λ client. list_any (λ v. v.client == client) ws ≡ true)
found-waits test ws None found = tt
found-waits test ws (Some w) found = found-there test ws w found

-- what was found is its client's own call
pub first-own : (test : Waiting → Bool) (ws : List Waiting) (o : Option Waiting) → AreApart ws → find test ws ≡ o
    → find test ws ≡ option_and_then (λ client. find (λ w. w.client == client) ws) (option_map (λ w. w.client) o)
first-own test ws None apart found = found
first-own test ws (Some w) apart found = found ∙ sym (found-at test ws w apart found).own

none-nth : (any : Waiting → Bool) (ws : List Waiting) (i : ℕ) (w : Waiting) → list_any any ws ≡ false → slice_get ws i ≡ Some w → any w ≡ false
none-nth any [] i w none at = absurd (none-some w at)
none-nth any (v ∷ ws) zero w none at = ap any (sym (same_Some v w at)) ∙ (or_parts (any v) (list_any any ws) none).0
none-nth any (v ∷ ws) (suc i) w none at = none-nth any ws i w (or_parts (any v) (list_any any ws) none).1 at

-- the call at a place in the list is its client's own
pub nth-own : (ws : List Waiting) (i : ℕ) (w : Waiting) → AreApart ws → slice_get ws i ≡ Some w → find (λ v. v.client == w.client) ws ≡ Some w
unfolding AreApart
nth-own [] i w apart at = absurd (none-some w at)
nth-own (v ∷ ws) zero w apart at = let own = eq-eqb v.client w.client (ap (λ (u : Waiting). u.client) (same_Some v w at)) in rw own at
nth-own (v ∷ ws) (suc i) w apart at =
    let other : (v.client == w.client) ≡ false = turned w.client v.client (none-nth (λ u. u.client == v.client) ws i w apart.0 at) in
    rw other (nth-own ws i w apart.1 at)

-- also among those that pass a test
own-filtered : (test : Waiting → Bool) (ws : List Waiting) (w : Waiting) → AreApart ws → find (λ v. v.client == w.client) (filter test ws) ≡ Some w → find (λ v. v.client == w.client) ws ≡ Some w
unfolding AreApart
own-filtered test [] w apart found = absurd (none-some w found)
own-filtered test (v ∷ ws) w apart found =
    ⊎_elim
    (λ (yes : test v ≡ true).
    ⊎_elim
    (λ (own : (v.client == w.client) ≡ true). let here : Some v ≡ Some w = rw (yes, own) at found in rw own here)
    (λ (other : (v.client == w.client) ≡ false). let later : find (λ u. u.client == w.client) (filter test ws) ≡ Some w = rw (yes, other) at found in rw other (own-filtered test ws w apart.1 later))
    (cases_Bool (v.client == w.client)))
    (λ (no : test v ≡ false).
    let later : find (λ u. u.client == w.client) (filter test ws) ≡ Some w = rw no at found in
    let rest = own-filtered test ws w apart.1 later in
    let other : (v.client == w.client) ≡ false = turned w.client v.client (none-found (λ u. u.client == v.client) (λ u. u.client == w.client) ws w apart.0 rest) in
    rw other rest)
    (cases_Bool (test v))

pub nth-filtered : (test : Waiting → Bool) (ws : List Waiting) (i : ℕ) (w : Waiting) → AreApart ws → slice_get (filter test ws) i ≡ Some w → find (λ v. v.client == w.client) ws ≡ Some w
nth-filtered test ws i w apart at = own-filtered test ws w apart (nth-own (filter test ws) i w (apart-filter test ws apart) at)

-- they are no more
pub few-filtered : (test : Waiting → Bool) (ws : List Waiting) → length (filter test ws) ≤ length ws
few-filtered test [] = omega arith
few-filtered test (w ∷ ws) =
    ⊎_elim
    (λ (yes : test w ≡ true). rw yes (let rest = few-filtered test ws in omega (arith, rest)))
    (λ (no : test w ≡ false). rw no (let rest = few-filtered test ws in omega (arith, rest)))
    (cases_Bool (test w))

-- one call less
pub length-others : (ws : List Waiting) (client : ℕ) (w : Waiting) → AreApart ws → find (λ v. v.client == client) ws ≡ Some w → w.client ≡ client → length (others client ws) + 1 ≡ length ws
length-others ws client w apart found same =
    let at = found-at (λ v. v.client == client) ws w apart found in
    let left = ap length (ap (λ k. others k ws) (sym same) ∙ at.left) ∙ length-append at.before at.after in
    let all = ap length at.is ∙ length-append at.before (w ∷ at.after) in
    omega (arith, left, all)
