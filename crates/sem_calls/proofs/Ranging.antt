-- A trial that goes keeps each semadj in its range.
use Rattle.std.proofs.Common.{◌≡◌, ℕ, ℤ, pos, Bool, true, false, List, [], ◌∷◌, ◌++◌, ◌+◌, ◌-ℤ◌, refl, sym, ap, ◌∙◌, ⊎_elim, arith}
use Rattle.std.specs.Prelude.{◌&&◌, int_lt, ◌+ℤ◌, not, Option, Some, None, unwrap_or, if◌then◌else◌}
use Rattle.std.proofs.lemmas.Bool.{cases_eq, false≢true}
use Rattle.std.proofs.lemmas.Int.{ints}
use Rattle.ipc_call.specs.Flags.{has_flag, ipc_nowait}
use Rattle.ipc_call.specs.declared.calls.SemOper.{SemOper}
use Rattle.ipc_call.specs.declared.rules.Rule.TheVariants.{UndoRange, ValueRange, WouldWait}
use Rattle.sem_set.specs.declared.set.Semaphore.{Semaphore}
use Rattle.sem_set.specs.declared.trials.Met.{Met}
use Rattle.sem_set.specs.declared.trials.Trial.{Trial}
use Rattle.sem_set.specs.declared.trials.Trial.TheVariants.{Go, Refuse, Wait}
use Rattle.sem_set.specs.Met.{met_at}
use Rattle.sem_set.specs.Sets.{semvmx}
use Rattle.sem_set.specs.Trials.{is_semadj, must_wait, trial_from, trial_on, undoes}
use Rattle.sem_set.proofs.Running.{met_elsewhere, met_here}
use Rattle.sem_undo.specs.Entries.{Adjusted, Entries, adj_of, with_adj}
use Rattle.sem_undo.proofs.Entries.{get_with_apart, get_with_here, key}
use Rattle.sem_undo.proofs.Values.{entry_adj}
use Rattle.sem_calls.specs.Operations.{StayInRange, lowered_by}

-- an operation doesn't stop a trial that goes
gone : (high low nowait far : Bool) (place : ℕ) (rest : Trial)
    → unwrap_or (if high then Some (Refuse ValueRange) else (if low then Some (if nowait then Refuse WouldWait else Wait place) else (if far then Some (Refuse UndoRange) else None))) rest ≡ Go
    → (far ≡ false) × (rest ≡ Go)
gone true low nowait far place rest is = absurd (let e : Refuse ValueRange ≡ Go = is in cc)
gone false true true far place rest is = absurd (let e : Refuse WouldWait ≡ Go = is in cc)
gone false true false far place rest is = absurd (let e : Wait place ≡ Go = is in cc)
gone false false nowait true place rest is = absurd (let e : Refuse UndoRange ≡ Go = is in cc)
gone false false nowait false place rest is = (refl, is)

in-range : (undo fits : Bool) → (undo && not fits) ≡ false → undo ≡ true → fits ≡ true
in-range true true is does = refl
in-range true false is does = absurd (false≢true (sym is))
in-range false fits is does = absurd (false≢true does)

module _ (undo : Entries) (client id : ℕ) (o : SemOper) where
  -- the semadj of a number after an operation on it, and after one on another
  pub adj-here : (n : ℕ) → n ≡ o.num → adj_of (lowered_by undo client id o) client id n ≡ (if undoes o then adj_of undo client id n -ℤ o.op else adj_of undo client id n)
  adj-here n same = by (undoes o)
    where
      by : (does : Bool) → adj_of (if does then with_adj undo (key client id o.num) (adj_of undo client id o.num -ℤ o.op) else undo) client id n ≡ (if does then adj_of undo client id n -ℤ o.op else adj_of undo client id n)
      by true =
          ap (λ (e : Option ℤ). unwrap_or e (pos 0)) (get_with_here undo (key client id o.num) (key client id n) (adj_of undo client id o.num -ℤ o.op) (λ i. key client id (same i)))
          ∙ entry_adj (adj_of undo client id o.num -ℤ o.op) ∙ ap (λ (k : ℕ). adj_of undo client id k -ℤ o.op) (sym same)
      by false = refl

  pub adj-elsewhere : (n : ℕ) → (o.num ≡ n → ⊥) → adj_of (lowered_by undo client id o) client id n ≡ adj_of undo client id n
  adj-elsewhere n ne = by (undoes o)
    where
      by : (does : Bool) → adj_of (if does then with_adj undo (key client id o.num) (adj_of undo client id o.num -ℤ o.op) else undo) client id n ≡ adj_of undo client id n
      by true = ap (λ (e : Option ℤ). unwrap_or e (pos 0)) (get_with_apart undo (key client id o.num) (key client id n) (adj_of undo client id o.num -ℤ o.op) (λ q. ne (sym (ap (λ (k : Adjusted). k.num) q))))
      by false = refl

module _ (sems : List Semaphore) (adj : ℕ → ℤ) (client id : ℕ) where
  -- the entries hold what the next operation meets
  abbrev AreMet : Entries → List SemOper → Type 0
  AreMet undo earlier = (n : ℕ) → adj_of undo client id n ≡ (met_at sems adj earlier n).adj

  met-after : (undo : Entries) (earlier : List SemOper) (o : SemOper) → AreMet undo earlier → AreMet (lowered_by undo client id o) (earlier ++ o ∷ [])
  met-after undo earlier o met n = ⊎_elim
      (λ (same : o.num ≡ n).
      adj-here undo client id o n (sym same)
      ∙ ap (λ (z : ℤ). if undoes o then z -ℤ o.op else z) (met n)
      ∙ sym (ap (λ (m : Met). m.adj) (met_here sems adj earlier o n same)))
      (λ (other : o.num ≡ n → ⊥).
      adj-elsewhere undo client id o n other ∙ met n ∙ sym (ap (λ (m : Met). m.adj) (met_elsewhere sems adj earlier o n other)))
      (cases_eq o.num n)

  pub stays : (place : ℕ) (undo : Entries) (earlier ops : List SemOper) → AreMet undo earlier → trial_from place sems adj earlier ops ≡ Go → StayInRange undo client id ops
  stays place undo earlier [] met goes = tt
  stays place undo earlier (o ∷ os) met goes =
      let next = met_at sems adj earlier o.num in
      let past = gone (int_lt semvmx (next.value +ℤ o.op)) (must_wait next.value o) (has_flag o.flags ipc_nowait) (undoes o && not (is_semadj (next.adj -ℤ o.op))) place _ goes in (
        (λ does. ap (λ (z : ℤ). is_semadj (z -ℤ o.op)) (met o.num) ∙ in-range (undoes o) (is_semadj (next.adj -ℤ o.op)) past.0 does),
        stays (place + 1) (lowered_by undo client id o) (earlier ++ o ∷ []) os (met-after undo earlier o met) past.1,
      )

zero-less : (z : ℤ) → z ≡ z -ℤ pos 0
zero-less z = omega (arith, ints)

-- the operations of a trial that goes
pub stays-on : (sems : List Semaphore) (undo : Entries) (client id : ℕ) (ops : List SemOper) → trial_on sems (adj_of undo client id) ops ≡ Go → StayInRange undo client id ops
stays-on sems undo client id ops goes = stays sems (adj_of undo client id) client id 0 undo [] ops (λ n. zero-less (adj_of undo client id n)) goes
