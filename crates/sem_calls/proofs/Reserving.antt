-- The row of a client at a set: what making it leaves of the rows, and for which operations it is enough.
use Rattle.std.proofs.Common.{◌≡◌, ℕ, ◌<◌, ◌≤◌, Bool, true, false, List, [], ◌∷◌, length, refl, sym, ap, subst, ◌∙◌, arith, ⊎_elim}
use Rattle.std.specs.Prelude.{◌&&◌, ◌||◌, nat_lt, unwrap_or, if◌then◌else◌, Option}
use Rattle.std.specs.FinMap as finite
use Rattle.std.specs.List.{AllByRecursion, list_any}
use Rattle.std.proofs.lemmas.Bool.{cases_Bool, false≢true}
use Rattle.ipc_call.specs.declared.calls.SemOper.{SemOper}
use Rattle.sem_set.specs.declared.set.Semaphore.{Semaphore}
use Rattle.sem_set.specs.Trials.{are_in, undoes}
use Rattle.client_map.proofs.Orders.{get_put, get_put_apart}
use Rattle.sem_undo.specs.Entries.{Undone, row_len}
use Rattle.sem_undo.proofs.Changes.{by_place}
use Rattle.sem_undo.proofs.Entries.{place}
use Rattle.sem_undo.proofs.Keys.{place_same, place_total}

both : (a b : Bool) → (a && b) ≡ true → (a ≡ true) × (b ≡ true)
both true b is = (refl, is)
both false b is = absurd (false≢true is)

neither : (a b : Bool) → (a || b) ≡ false → (a ≡ false) × (b ≡ false)
neither true b is = absurd (false≢true (sym is))
neither false b is = (refl, is)

is-below : (a b : ℕ) → nat_lt a b ≡ true → a < b
is-below a b is = grind arith

is-not-below : (a b : ℕ) → nat_lt a b ≡ false → b ≤ a
is-not-below a b is = grind arith

module _ (u : Undone) (client at nsems : ℕ) where
  abbrev longer : Undone
  longer = record u { rows = finite.insert u.rows (place client at) nsems }

  len-here : row_len longer client at ≡ nsems
  len-here = ap (λ (o : Option ℕ). unwrap_or o 0) (get_put place_total place_same u.rows (place client at) nsems)

  len-apart : (c s : ℕ) → (c ≡ client → s ≡ at → ⊥) → row_len longer c s ≡ row_len u c s
  len-apart c s ne =
      ap (λ (o : Option ℕ). unwrap_or o 0)
      (get_put_apart place_total place_same u.rows (place client at) nsems (place c s) (λ q. ne (λ i. (q i).client) (λ i. (q i).set)))

  module _ (new : Undone) (is : new ≡ (if nat_lt (row_len u client at) nsems then longer else u)) where
    shorter : nat_lt (row_len u client at) nsems ≡ true → new ≡ longer
    shorter short = is ∙ ap (λ (b : Bool). if b then longer else u) short

    long : nat_lt (row_len u client at) nsems ≡ false → new ≡ u
    long short = is ∙ ap (λ (b : Bool). if b then longer else u) short

    -- the row is as long as its set
    pub row-made : nsems ≤ row_len new client at
    row-made = ⊎_elim
        (λ (short : nat_lt (row_len u client at) nsems ≡ true). let e = ap (λ (v : Undone). row_len v client at) (shorter short) ∙ len-here in omega (arith, e))
        (λ (short : nat_lt (row_len u client at) nsems ≡ false). let e = ap (λ (v : Undone). row_len v client at) (long short) in omega (arith, e, is-not-below (row_len u client at) nsems short))
        (cases_Bool (nat_lt (row_len u client at) nsems))

    -- and no row is shorter than it was
    pub rows-grow : (c s n : ℕ) → n < row_len u c s → n < row_len new c s
    rows-grow c s n within = ⊎_elim
        (λ (short : nat_lt (row_len u client at) nsems ≡ true). by_place client at c s
        (λ (f : c ≡ client) (g : s ≡ at).
        let was = ap (λ (k : ℕ). row_len u k s) f ∙ ap (λ (k : ℕ). row_len u client k) g in
        let now = ap (λ (k : ℕ). row_len new k s) f ∙ ap (λ (k : ℕ). row_len new client k) g ∙ ap (λ (v : Undone). row_len v client at) (shorter short) ∙ len-here in
        omega (arith, within, was, now, is-below (row_len u client at) nsems short))
        (λ (ne : c ≡ client → s ≡ at → ⊥). subst (λ k. n < k) (sym (ap (λ (v : Undone). row_len v c s) (shorter short) ∙ len-apart c s ne)) within))
        (λ (short : nat_lt (row_len u client at) nsems ≡ false). subst (λ (v : Undone). n < row_len v c s) (sym (long short)) within)
        (cases_Bool (nat_lt (row_len u client at) nsems))

-- a row as long as its set is enough
pub row-enough : (len : ℕ) (sems : List Semaphore) (ops : List SemOper) → length sems ≤ len → are_in sems ops ≡ true → AllByRecursion (λ o. undoes o ≡ true → o.num < len) ops
row-enough len sems [] long numbers = tt
row-enough len sems (o ∷ os) long numbers =
    let split = both (nat_lt o.num (length sems)) (are_in sems os) numbers in
    ((λ _. omega (arith, long, is-below o.num (length sems) split.0)), row-enough len sems os long split.1)

-- none is needed where exit undoes nothing
pub row-needless : (len : ℕ) (ops : List SemOper) → list_any undoes ops ≡ false → AllByRecursion (λ o. undoes o ≡ true → o.num < len) ops
row-needless len [] none = tt
row-needless len (o ∷ os) none =
    let split = neither (undoes o) (list_any undoes os) none in
    ((λ is. absurd (false≢true (sym split.0 ∙ is))), row-needless len os split.1)
