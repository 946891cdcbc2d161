-- What an operation meets after the earlier ones: each step of a trial, and of a commit.
use Rattle.std.proofs.Common.{ℕ, ◌<◌, ◌≤◌, ◌≡◌, ◌∙◌, ap, sym, refl, Bool, true, false, arith, ℤ, pos, ◌+ℤ◌, ◌-ℤ◌, List, [], ◌∷◌, ◌++◌, length, get_or, ⊎_elim}
use Rattle.std.specs.Prelude.{◌==◌, ◌&&◌, ◌||◌, nat_lt, if◌then◌else◌}
use Rattle.std.specs.List.{list_any}
use Rattle.std.proofs.lemmas.Bool.{cases_lt, le-ltb}
use Rattle.std.proofs.lemmas.List.Folds.{list_all_at}
use Rattle.std.proofs.lemmas.Int.{ints}
use Rattle.ipc_call.specs.declared.calls.SemOper.{SemOper}
use Rattle.sem_set.specs.declared.set.Semaphore.{Semaphore}
use Rattle.sem_set.specs.declared.trials.Met.{Met}
use Rattle.sem_set.specs.Sets.{value_of}
use Rattle.sem_set.specs.Trials.{are_in, is_on, part_of, sum_of, undoes, undoes_on}
use Rattle.sem_set.specs.Met.{met_after, met_at}

-- an operation that is nowhere, and what it meets
abbrev pub no_oper : SemOper
no_oper = record { num = 0; op = pos 0; flags = 0 }

abbrev pub no_met : Met
no_met = record { value = pos 0; adj = pos 0 }

pub sum_step : (a b c : ℤ) → a +ℤ (b +ℤ c) ≡ (a +ℤ b) +ℤ c
sum_step a b c = omega (arith, ints)

-- with one more operation
pub sum_more : (which : SemOper → Bool) (os : List SemOper) (o : SemOper) → sum_of which (os ++ o ∷ []) ≡ sum_of which os +ℤ part_of which o
sum_more which [] o = let p = part_of which o in let e : p +ℤ pos 0 ≡ pos 0 +ℤ p = omega (arith, ints) in e
sum_more which (x ∷ os) o = ap (λ z. part_of which x +ℤ z) (sum_more which os o) ∙ sum_step (part_of which x) (sum_of which os) (part_of which o)

met_moved : (v s a u op : ℤ) (here undo : Bool) → here ≡ true → ◌≡◌ {A = Met} (record { value = v +ℤ (s +ℤ (if here then op else pos 0)); adj = a -ℤ (u +ℤ (if undo && here then op else pos 0)) }) (record { value = (v +ℤ s) +ℤ op; adj = if undo then (a -ℤ u) -ℤ op else a -ℤ u })
met_moved v s a u op true true h = λ i. record { value = sum_step v s op i; adj = (let e : a -ℤ (u +ℤ op) ≡ (a -ℤ u) -ℤ op = omega (arith, ints) in e) i }
met_moved v s a u op true false h = λ i. record { value = sum_step v s op i; adj = (let e : a -ℤ (u +ℤ pos 0) ≡ a -ℤ u = omega (arith, ints) in e) i }
met_moved v s a u op false undo h = absurd (let e : false ≡ true = h in cc)

met_kept : (v s a u op : ℤ) (here undo : Bool) → here ≡ false → ◌≡◌ {A = Met} (record { value = v +ℤ (s +ℤ (if here then op else pos 0)); adj = a -ℤ (u +ℤ (if undo && here then op else pos 0)) }) (record { value = v +ℤ s; adj = a -ℤ u })
met_kept v s a u op true undo h = absurd (let e : true ≡ false = h in cc)
met_kept v s a u op false true h = λ i. record { value = (let e : v +ℤ (s +ℤ pos 0) ≡ v +ℤ s = omega (arith, ints) in e) i; adj = (let e : a -ℤ (u +ℤ pos 0) ≡ a -ℤ u = omega (arith, ints) in e) i }
met_kept v s a u op false false h = λ i. record { value = (let e : v +ℤ (s +ℤ pos 0) ≡ v +ℤ s = omega (arith, ints) in e) i; adj = (let e : a -ℤ (u +ℤ pos 0) ≡ a -ℤ u = omega (arith, ints) in e) i }

-- what is met after one more operation, by its sums
met_sums : (sems : List Semaphore) (adj : ℕ → ℤ) (os : List SemOper) (o : SemOper) (num : ℕ) → met_at sems adj (os ++ o ∷ []) num ≡ record { value = pos (value_of sems num) +ℤ (sum_of (is_on num) os +ℤ part_of (is_on num) o); adj = adj num -ℤ (sum_of (undoes_on num) os +ℤ part_of (undoes_on num) o) }
met_sums sems adj os o num = λ i. record { value = pos (value_of sems num) +ℤ sum_more (is_on num) os o i; adj = adj num -ℤ sum_more (undoes_on num) os o i }

-- on the operation's semaphore, and on another
pub met_here : (sems : List Semaphore) (adj : ℕ → ℤ) (os : List SemOper) (o : SemOper) (num : ℕ) → o.num ≡ num → met_at sems adj (os ++ o ∷ []) num ≡ met_after (met_at sems adj os num) o
met_here sems adj os o num e = met_sums sems adj os o num ∙ met_moved (pos (value_of sems num)) (sum_of (is_on num) os) (adj num) (sum_of (undoes_on num) os) o.op (o.num == num) (undoes o) (grind arith)

pub met_elsewhere : (sems : List Semaphore) (adj : ℕ → ℤ) (os : List SemOper) (o : SemOper) (num : ℕ) → (o.num ≡ num → ⊥) → met_at sems adj (os ++ o ∷ []) num ≡ met_at sems adj os num
met_elsewhere sems adj os o num e = met_sums sems adj os o num ∙ met_kept (pos (value_of sems num)) (sum_of (is_on num) os) (adj num) (sum_of (undoes_on num) os) o.op (o.num == num) (undoes o) (grind arith)

pub part_here : (num : ℕ) (o : SemOper) → o.num ≡ num → part_of (is_on num) o ≡ o.op
part_here num o e = at (o.num == num) (grind arith)
  where
    at : (here : Bool) → here ≡ true → (if here then o.op else pos 0) ≡ o.op
    at true h = refl
    at false h = absurd (let q : false ≡ true = h in cc)

pub part_elsewhere : (num : ℕ) (o : SemOper) → (o.num ≡ num → ⊥) → part_of (is_on num) o ≡ pos 0
part_elsewhere num o e = at (o.num == num) (grind arith)
  where
    at : (here : Bool) → here ≡ false → (if here then o.op else pos 0) ≡ pos 0
    at true h = absurd (let q : true ≡ false = h in cc)
    at false h = refl

-- the number of each operation is that of a semaphore
pub num_in : (sems : List Semaphore) (ops : List SemOper) (i : ℕ) → are_in sems ops ≡ true → i < length ops → (get_or ops i no_oper).num < length sems
num_in sems ops i all h =
    ⊎_elim
    (λ (l : (get_or ops i no_oper).num < length sems). l)
    (λ (g : length sems ≤ (get_or ops i no_oper).num). absurd (let e : true ≡ false = sym all ∙ list_all_at (λ o. nat_lt o.num (length sems)) ops i no_oper h (le-ltb (get_or ops i no_oper).num (length sems) g) in cc))
    (cases_lt (get_or ops i no_oper).num (length sems))

sums_none : (here any : Bool) (op sum : ℤ) → (here || any) ≡ false → (any ≡ false → sum ≡ pos 0) → (if here then op else pos 0) +ℤ sum ≡ pos 0
sums_none true any op sum h none = absurd (let q : true ≡ false = h in cc)
sums_none false any op sum h none = ap (λ (z : ℤ). pos 0 +ℤ z) (none h)

-- no operation on a number sums up to 0
pub sum_none : (num : ℕ) (os : List SemOper) → list_any (is_on num) os ≡ false → sum_of (is_on num) os ≡ pos 0
sum_none num [] h = refl
sum_none num (o ∷ os) h = sums_none (o.num == num) (list_any (is_on num) os) o.op (sum_of (is_on num) os) h (sum_none num os)
