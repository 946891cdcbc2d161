-- What a trial that goes says of each operation.
use Rattle.std.proofs.Common.{ℕ, zero, suc, ◌+◌, ◌<◌, ◌≤◌, ◌≡◌, ◌∙◌, ap, sym, refl, subst, arith, Bool, true, false, ℤ, pos, ◌+ℤ◌, ◌≤ℤ◌, List, length, take, drop, get_or}
use Rattle.std.specs.Prelude.{unwrap_or, Some, None, int_lt, ◌||◌, if◌then◌else◌}
use Rattle.std.proofs.lemmas.Int.{ints}
use Rattle.ipc_call.specs.declared.calls.SemOper.{SemOper}
use Rattle.ipc_call.specs.declared.rules.Rule.TheVariants.{ValueRange, WouldWait, UndoRange}
use Rattle.sem_set.specs.declared.set.Semaphore.{Semaphore}
use Rattle.sem_set.specs.declared.trials.Trial.{Trial}
use Rattle.sem_set.specs.declared.trials.Trial.TheVariants.{Go, Wait, Refuse}
use Rattle.sem_set.specs.Sets.{semvmx, value_of}
use Rattle.sem_set.specs.Trials.{is_on, must_wait, sum_of, trial_from, trial_on}
use Rattle.sem_set.specs.Met.{met_at}
use Rattle.sem_set.proofs.Running.{no_oper}
use Rattle.sem_set.proofs.Steps.{trial_step}

abbrev Picked : Bool → Bool → Trial → Type 0
Picked high low rest = (high ≡ false) × (low ≡ false) × (rest ≡ Go)

-- none of the three tests held
picked : (high low told far : Bool) (place : ℕ) (rest : Trial) → unwrap_or (if high then Some (Refuse ValueRange) else (if low then Some (if told then Refuse WouldWait else Wait place) else (if far then Some (Refuse UndoRange) else None))) rest ≡ Go → Picked high low rest
picked true low told far place rest h = absurd (let e : Refuse ValueRange ≡ Go = h in cc)
picked false true true far place rest h = absurd (let e : Refuse WouldWait ≡ Go = h in cc)
picked false true false far place rest h = absurd (let e : Wait place ≡ Go = h in cc)
picked false false told true place rest h = absurd (let e : Refuse UndoRange ≡ Go = h in cc)
picked false false told false place rest h = (refl, refl, h)

either_not : (a b : Bool) → (a || b) ≡ false → a ≡ false
either_not true b h = absurd (let e : true ≡ false = h in cc)
either_not false b h = refl

fits : (v : ℤ) → int_lt semvmx v ≡ false → int_lt v (pos 0) ≡ false → (pos 0 ≤ℤ v) × (v ≤ℤ semvmx)
fits v h l = (grind (arith, ints), grind (arith, ints))

module _ (sems : List Semaphore) (adj : ℕ → ℤ) (ops : List SemOper) (go : trial_on sems adj ops ≡ Go) where
  step : (i : ℕ) → i < length ops → trial_from i sems adj (take i ops) (drop i ops) ≡ Go → Picked (int_lt semvmx ((met_at sems adj (take i ops) (get_or ops i no_oper).num).value +ℤ (get_or ops i no_oper).op)) (must_wait (met_at sems adj (take i ops) (get_or ops i no_oper).num).value (get_or ops i no_oper)) (trial_from (i + 1) sems adj (take (i + 1) ops) (drop (i + 1) ops))
  step i h e =
      picked _ _ _ _ i _ (sym (trial_step sems adj ops i (met_at sems adj (take i ops) (get_or ops i no_oper).num) _ h refl refl) ∙ e)

  -- the rest goes too
  pub go_from : (i : ℕ) → i ≤ length ops → trial_from i sems adj (take i ops) (drop i ops) ≡ Go
  go_from zero h = go
  go_from (suc i) h =
      let e : i + 1 ≡ suc i = omega arith in
      subst (λ (n : ℕ). trial_from n sems adj (take n ops) (drop n ops) ≡ Go) e (step i (omega arith) (go_from i (omega arith))).2

  -- each operation leaves a value
  pub value_fits : (i : ℕ) → i < length ops → (pos 0 ≤ℤ ((pos (value_of sems (get_or ops i no_oper).num) +ℤ sum_of (is_on (get_or ops i no_oper).num) (take i ops)) +ℤ (get_or ops i no_oper).op)) × (((pos (value_of sems (get_or ops i no_oper).num) +ℤ sum_of (is_on (get_or ops i no_oper).num) (take i ops)) +ℤ (get_or ops i no_oper).op) ≤ℤ semvmx)
  value_fits i h =
      let told = step i h (go_from i (omega arith)) in
      fits _ told.0 (either_not _ _ told.1)

  -- so does it where each semaphore has its value with the earlier operations
  pub fits_now : (i : ℕ) (cur : List Semaphore) (num : ℕ) → i < length ops → num ≡ (get_or ops i no_oper).num → ((n : ℕ) → pos (value_of cur n) ≡ pos (value_of sems n) +ℤ sum_of (is_on n) (take i ops)) → (pos 0 ≤ℤ (pos (value_of cur num) +ℤ (get_or ops i no_oper).op)) × ((pos (value_of cur num) +ℤ (get_or ops i no_oper).op) ≤ℤ semvmx)
  fits_now i cur num h e values =
      let met : pos (value_of cur num) ≡ pos (value_of sems (get_or ops i no_oper).num) +ℤ sum_of (is_on (get_or ops i no_oper).num) (take i ops) = ap (λ (n : ℕ). pos (value_of cur n)) e ∙ values (get_or ops i no_oper).num in
      subst (λ (z : ℤ). (pos 0 ≤ℤ (z +ℤ (get_or ops i no_oper).op)) × ((z +ℤ (get_or ops i no_oper).op) ≤ℤ semvmx)) (sym met) (value_fits i h)
