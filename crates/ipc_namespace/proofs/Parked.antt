-- The calls that wait: what is true of each, when one leaves and when one comes, and that they are few.
use Rattle.std.proofs.Common.{◌≡◌, ℕ, suc, ◌<◌, ◌≤◌, Bool, true, false, eqb, List, [], ◌∷◌, ◌++◌, map, length, refl, sym, ap, subst, Some, ⊎_elim}
use Rattle.std.specs.Prelude.{◌==◌, filter}
use Rattle.std.specs.List.{find, list_any, IsDistinct, AllByRecursion}
use Rattle.std.proofs.lemmas.Bool.{cases_Bool, or_parts, or_from, or_cases, eqb-true, eqb-false, ne_eqb, false≢true}
use Rattle.std.proofs.lemmas.Option.{none-some, same_Some}
use Rattle.std.proofs.lemmas.Map.Steps.{length-le_from_distinct_below}
use Rattle.ipc_call.specs.declared.replies.Waiting.{Waiting}
use Rattle.ipc_parked.specs.Parked.{AreApart}
use Rattle.ipc_namespace.specs.Namespace.{AreParked, stands}

-- no call waits
pub none_parked : (n : ℕ) (ws : List Waiting) → ws ≡ [] → AreParked n ws
unfolding AreParked AreApart
none_parked n [] e = (tt, tt)
none_parked n (w ∷ ws) e = cc

module _ (P : Waiting → Type 0) where
  -- of what was found
  pub all-found : (test : Waiting → Bool) (ws : List Waiting) (w : Waiting) → AllByRecursion P ws → find test ws ≡ Some w → P w
  all-found test [] w all found = absurd (none-some w found)
  all-found test (v ∷ ws) w all found =
      ⊎_elim
      (λ (yes : test v ≡ true). let first : Some v ≡ Some w = rw yes at found in subst P (same_Some v w first) all.0)
      (λ (no : test v ≡ false). let later : find test ws ≡ Some w = rw no at found in all-found test ws w all.1 later)
      (cases_Bool (test v))

  pub all-filter : (test : Waiting → Bool) (ws : List Waiting) → AllByRecursion P ws → AllByRecursion P (filter test ws)
  all-filter test [] all = tt
  all-filter test (w ∷ ws) all =
      ⊎_elim
      (λ (yes : test w ≡ true). rw yes (all.0, all-filter test ws all.1))
      (λ (no : test w ≡ false). rw no (all-filter test ws all.1))
      (cases_Bool (test w))

  pub all-push : (ws : List Waiting) (w : Waiting) → AllByRecursion P ws → P w → AllByRecursion P (ws ++ w ∷ [])
  all-push [] w all p = (p, tt)
  all-push (v ∷ ws) w all p = (all.0, all-push ws w all.1 p)

-- each is of a client that there is, and may wait
pub each-parked : (n : ℕ) (ws : List Waiting) → AreParked n ws → AllByRecursion (λ w. (w.client < n) × (stands w.call ≡ true)) ws
unfolding AreParked
each-parked n ws are = are.0

-- no two are of one client
pub apart-parked : (n : ℕ) (ws : List Waiting) → AreParked n ws → AreApart ws
unfolding AreParked
apart-parked n ws are = are.1

-- a call that waits may wait, and its client is known
pub parked_found : (n : ℕ) (test : Waiting → Bool) (ws : List Waiting) (w : Waiting) → AreParked n ws → find test ws ≡ Some w → (w.client < n) × (stands w.call ≡ true)
parked_found n test ws w are found = all-found (λ v. (v.client < n) × (stands v.call ≡ true)) test ws w (each-parked n ws are) found

pub list_any-filter : (any test : Waiting → Bool) (ws : List Waiting) → list_any any ws ≡ false → list_any any (filter test ws) ≡ false
list_any-filter any test [] none = refl
list_any-filter any test (w ∷ ws) none =
    let parts = or_parts (any w) (list_any any ws) none in
    ⊎_elim
    (λ (yes : test w ≡ true). rw yes (or_from (any w) (list_any any (filter test ws)) parts.0 (list_any-filter any test ws parts.1)))
    (λ (no : test w ≡ false). rw no (list_any-filter any test ws parts.1))
    (cases_Bool (test w))

pub apart-filter : (test : Waiting → Bool) (ws : List Waiting) → AreApart ws → AreApart (filter test ws)
unfolding AreApart
apart-filter test [] apart = tt
apart-filter test (w ∷ ws) apart =
    ⊎_elim
    (λ (yes : test w ≡ true). rw yes (list_any-filter (λ v. v.client == w.client) test ws apart.0, apart-filter test ws apart.1))
    (λ (no : test w ≡ false). rw no (apart-filter test ws apart.1))
    (cases_Bool (test w))

pub AreParked-filter : (n : ℕ) (test : Waiting → Bool) (ws : List Waiting) → AreParked n ws → AreParked n (filter test ws)
unfolding AreParked
AreParked-filter n test ws are = (all-filter (λ w. (w.client < n) × (stands w.call ≡ true)) test ws are.0, apart-filter test ws are.1)

list_any-push : (test : Waiting → Bool) (ws : List Waiting) (w : Waiting) → list_any test ws ≡ false → test w ≡ false → list_any test (ws ++ w ∷ []) ≡ false
list_any-push test [] w none here = or_from (test w) false here refl
list_any-push test (v ∷ ws) w none here =
    let parts = or_parts (test v) (list_any test ws) none in or_from (test v) (list_any test (ws ++ w ∷ [])) parts.0 (list_any-push test ws w parts.1 here)

pub turned : (a b : ℕ) → (a == b) ≡ false → (b == a) ≡ false
turned a b apart = ne_eqb b a (λ e. eqb-false a b apart (sym e))

pub apart-push : (ws : List Waiting) (w : Waiting) → AreApart ws → list_any (λ v. v.client == w.client) ws ≡ false → AreApart (ws ++ w ∷ [])
unfolding AreApart
apart-push [] w apart free = (refl, tt)
apart-push (v ∷ ws) w apart free =
    let parts = or_parts (v.client == w.client) (list_any (λ u. u.client == w.client) ws) free in
    (list_any-push (λ u. u.client == v.client) ws w apart.0 (turned v.client w.client parts.0), apart-push ws w apart.1 parts.1)

-- one more call, of a client with no call that waits
pub AreParked-push : (n : ℕ) (ws : List Waiting) (w : Waiting) → AreParked n ws → w.client < n → stands w.call ≡ true → list_any (λ v. v.client == w.client) ws ≡ false → AreParked n (ws ++ w ∷ [])
unfolding AreParked
AreParked-push n ws w are known can free = (all-push (λ v. (v.client < n) × (stands v.call ≡ true)) ws w are.0 (known, can), apart-push ws w are.1 free)

apart_from : (x : ℕ) (ws : List Waiting) → list_any (λ v. v.client == x) ws ≡ false → AllByRecursion (λ y. eqb x y ≡ false) (map (λ v. v.client) ws)
apart_from x [] none = tt
apart_from x (w ∷ ws) none =
    let parts = or_parts (w.client == x) (list_any (λ v. v.client == x) ws) none in (turned w.client x parts.0, apart_from x ws parts.1)

pub distinct : (ws : List Waiting) → AreApart ws → IsDistinct eqb (map (λ w. w.client) ws)
unfolding IsDistinct AreApart
distinct [] apart = tt
distinct (w ∷ ws) apart = (apart_from w.client ws apart.0, distinct ws apart.1)

below : (n : ℕ) (ws : List Waiting) → AllByRecursion (λ w. (w.client < n) × (stands w.call ≡ true)) ws → (q : ℕ) → list_any (eqb q) (map (λ w. w.client) ws) ≡ true → q < n
below n [] all q is = absurd (false≢true is)
below n (w ∷ ws) all q is =
    ⊎_elim (λ (e : eqb q w.client ≡ true). subst (λ k. k < n) (sym (eqb-true q w.client e)) all.0.0) (λ (e : list_any (eqb q) (map (λ v. v.client) ws) ≡ true). below n ws all.1 q e)
    (or_cases (eqb q w.client) (list_any (eqb q) (map (λ v. v.client) ws)) is)

length-map : (ws : List Waiting) → length (map (λ w. w.client) ws) ≡ length ws
length-map [] = refl
length-map (w ∷ ws) = ap suc (length-map ws)

-- no more calls wait than there are clients
pub length-parked : (n : ℕ) (ws : List Waiting) → AreParked n ws → length ws ≤ n
length-parked n ws are = subst (λ k. k ≤ n) (length-map ws) (length-le_from_distinct_below (map (λ w. w.client) ws) n (distinct ws (apart-parked n ws are)) (below n ws (each-parked n ws are)))
