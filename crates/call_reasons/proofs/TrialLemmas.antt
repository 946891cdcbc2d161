-- A refused trial, operation by operation.
use Rattle.std.proofs.Common.{◌≡◌, ℕ, zero, suc, map, ℤ, pos, Bool, true, false, List, [], ◌∷◌, ◌++◌, ◌+◌, ◌<◌, ◌+ℤ◌, ◌-ℤ◌, ◌≤ℤ◌, length, take, drop, get_or, set, refl, sym, ap, ◌∙◌, ◌⊎◌, inl, inr, subst, arith, Option, Some, None}
use Rattle.std.specs.Prelude.{◌&&◌, ◌==◌, int_lt, nat_lt, option_and_then, IfOk, Ok, Err, Result, not, option_map, unwrap_or, if◌then◌else◌}
use Rattle.std.specs.List.{AllByRecursion, list_all}
use Rattle.std.proofs.lemmas.Bool.{cases_eq}
use Rattle.std.proofs.lemmas.Int.{ints}
use Rattle.ipc_call.specs.Flags.{has_flag, ipc_nowait}
use Rattle.ipc_call.specs.declared.calls.SemOper.{SemOper}
use Rattle.ipc_call.specs.declared.rules.Rule.{Rule}
use Rattle.ipc_call.specs.declared.rules.Rule.TheVariants.{UndoRange, ValueRange, WouldWait}
use Rattle.sem_set.specs.declared.set.Semaphore.{Semaphore}
use Rattle.sem_set.specs.declared.trials.Met.{Met}
use Rattle.sem_set.specs.declared.trials.Trial.{Trial}
use Rattle.sem_set.specs.declared.trials.Trial.TheVariants.{Go, Refuse, Wait}
use Rattle.sem_set.specs.Met.{met_after, met_at}
use Rattle.sem_set.specs.Sets.{semvmx, set_to, value_of}
use Rattle.sem_set.specs.Trials.{adj_in, committed, is_on, is_semadj, must_wait, stopped_at, stopped_by, sum_of, trial_from, trial_on, undoes, undoes_on}
use Rattle.ipc_objects.specs.declared.object.Object.{Object}
use Rattle.ipc_model.specs.Semaphores.{values_of}
use Rattle.ipc_model.specs.State.{SemSet}
use Rattle.sem_set.proofs.Goes.{value_fits}
use Rattle.sem_set.proofs.Left.{IsLeft, left_is, left_more, left_none}
use Rattle.sem_set.proofs.Running.{met_elsewhere, met_here, part_elsewhere, part_here, no_oper}
use Rattle.call_reasons.specs.declared.trials.Stopped.{Stopped}
use Rattle.call_reasons.specs.Trials.{by_stop, can_try_in, integers_of, refusal_of, refused_by, refused_from}

-- the rule is that of the trial

by-tests : (high low nowait far : Bool) (o : SemOper) (met : Met) (place : ℕ) (later : Option Stopped) (rest : Trial) → option_map (λ s. s.rule) later ≡ refusal_of rest
    → option_map (λ s. s.rule) (by_stop o met (if high then Some (Refuse ValueRange) else (if low then Some (if nowait then Refuse WouldWait else Wait 0) else (if far then Some (Refuse UndoRange) else None))) later)
    ≡ refusal_of (unwrap_or (if high then Some (Refuse ValueRange) else (if low then Some (if nowait then Refuse WouldWait else Wait place) else (if far then Some (Refuse UndoRange) else None))) rest)
by-tests true low nowait far o met place later rest is = refl
by-tests false true true far o met place later rest is = refl
by-tests false true false far o met place later rest is = refl
by-tests false false nowait true o met place later rest is = refl
by-tests false false nowait false o met place later rest is = is

pub same-rule : (place : ℕ) (sems : List Semaphore) (adj : ℕ → ℤ) (earlier ops : List SemOper) → option_map (λ s. s.rule) (refused_from sems adj earlier ops) ≡ refusal_of (trial_from place sems adj earlier ops)
same-rule place sems adj earlier [] = refl
same-rule place sems adj earlier (o ∷ os) =
    let met = met_at sems adj earlier o.num in
    by-tests (int_lt semvmx (met.value +ℤ o.op)) (must_wait met.value o) (has_flag o.flags ipc_nowait) (undoes o && not (is_semadj (met.adj -ℤ o.op))) o met place (refused_from sems adj (earlier ++ o ∷ []) os) (trial_from (place + 1) sems adj (earlier ++ o ∷ []) os) (same-rule (place + 1) sems adj (earlier ++ o ∷ []) os)

-- a trial of one operation says what stops it

plus_none : (z : ℤ) → z +ℤ pos 0 ≡ z
plus_none z = omega (arith, ints)

minus_none : (z : ℤ) → z -ℤ pos 0 ≡ z
minus_none z = omega (arith, ints)

stop-go : (high low nowait far : Bool) → unwrap_or (if high then Some (Refuse ValueRange) else (if low then Some (if nowait then Refuse WouldWait else Wait 0) else (if far then Some (Refuse UndoRange) else None))) Go ≡ Go
    → (if high then Some (Refuse ValueRange) else (if low then Some (if nowait then Refuse WouldWait else Wait 0) else (if far then Some (Refuse UndoRange) else None))) ≡ None
stop-go true low nowait far e = absurd (let q : Refuse ValueRange ≡ Go = e in cc)
stop-go false true true far e = absurd (let q : Refuse WouldWait ≡ Go = e in cc)
stop-go false true false far e = absurd (let q : Wait 0 ≡ Go = e in cc)
stop-go false false nowait true e = absurd (let q : Refuse UndoRange ≡ Go = e in cc)
stop-go false false nowait false e = refl

stop-is : (s : Option Trial) (t : Trial) → (t ≡ Go → ⊥) → t ≡ unwrap_or s Go → s ≡ Some t
stop-is None t not h = absurd (not h)
stop-is (Some x) t not h = ap Some (sym h)

refuse-no-go : (rule : Rule) → Refuse rule ≡ Go → ⊥
refuse-no-go rule e = let q : Refuse rule ≡ Go = e in cc

wait-no-go : (place : ℕ) → Wait place ≡ Go → ⊥
wait-no-go place e = let q : Wait place ≡ Go = e in cc

value-here : (v p op : ℤ) → p ≡ op → (v +ℤ (p +ℤ pos 0)) +ℤ pos 0 ≡ (v +ℤ pos 0) +ℤ op
value-here v p op e = ap (λ (z : ℤ). (v +ℤ (z +ℤ pos 0)) +ℤ pos 0) e ∙ (let q : (v +ℤ (op +ℤ pos 0)) +ℤ pos 0 ≡ (v +ℤ pos 0) +ℤ op = omega (arith, ints) in q)

value-elsewhere : (v p : ℤ) → p ≡ pos 0 → (v +ℤ (p +ℤ pos 0)) +ℤ pos 0 ≡ v +ℤ pos 0
value-elsewhere v p e = ap (λ (z : ℤ). (v +ℤ (z +ℤ pos 0)) +ℤ pos 0) e ∙ (let q : (v +ℤ (pos 0 +ℤ pos 0)) +ℤ pos 0 ≡ v +ℤ pos 0 = omega (arith, ints) in q)

adj-here : (undo here : Bool) (a op : ℤ) → here ≡ true → (if undo && here then a -ℤ op else a) -ℤ pos 0 ≡ (if undo then (a -ℤ pos 0) -ℤ op else a -ℤ pos 0)
adj-here true true a op e = let q : (a -ℤ op) -ℤ pos 0 ≡ (a -ℤ pos 0) -ℤ op = omega (arith, ints) in q
adj-here true false a op e = absurd (let q : false ≡ true = e in cc)
adj-here false here a op e = refl

adj-elsewhere : (undo here : Bool) (a op : ℤ) → here ≡ false → (if undo && here then a -ℤ op else a) -ℤ pos 0 ≡ a -ℤ pos 0
adj-elsewhere true true a op e = absurd (let q : true ≡ false = e in cc)
adj-elsewhere true false a op e = refl
adj-elsewhere false here a op e = refl

here_true : (a b : ℕ) → a ≡ b → (a == b) ≡ true
here_true a b e = grind arith

here_false : (a b : ℕ) → (a ≡ b → ⊥) → (a == b) ≡ false
here_false a b e = grind arith

-- what is met, where the operations so far are done on the set and in the row
abbrev pub AreMet : List Semaphore → List ℤ → List Semaphore → (ℕ → ℤ) → List SemOper → Type 0
AreMet cur row sems adj earlier = (n : ℕ) → met_at cur (adj_in row) [] n ≡ met_at sems adj earlier n

-- one more
module _ (cur : List Semaphore) (row : List ℤ) (sems : List Semaphore) (adj : ℕ → ℤ) (earlier : List SemOper) (o : SemOper) (met : AreMet cur row sems adj earlier) where
  same-stop : stopped_at 0 cur (adj_in row) [] o ≡ stopped_at 0 sems adj earlier o
  same-stop = ap (λ (m : Met). stopped_by 0 m.value m.adj o) (met o.num)

  pub step : (t : Trial) (rest : List SemOper) (s : Option Trial) → stopped_at 0 cur (adj_in row) [] o ≡ s → refused_from sems adj earlier (o ∷ rest) ≡ by_stop o (met_at cur (adj_in row) [] o.num) s (refused_from sems adj (earlier ++ o ∷ []) rest)
  step t rest s is = λ i. by_stop o (sym (met o.num) i) ((sym same-stop ∙ is) i) (refused_from sems adj (earlier ++ o ∷ []) rest)

  pub gone : (rest : List SemOper) → Go ≡ trial_on cur (adj_in row) (o ∷ []) → refused_from sems adj (earlier ++ o ∷ []) rest ≡ refused_from sems adj earlier (o ∷ rest)
  gone rest told =
      let m = met_at cur (adj_in row) [] o.num in
      sym (step Go rest None (stop-go (int_lt semvmx (m.value +ℤ o.op)) (must_wait m.value o) (has_flag o.flags ipc_nowait) (undoes o && not (is_semadj (m.adj -ℤ o.op))) (sym told)))

  pub waits : (rest : List SemOper) (place : ℕ) → Wait place ≡ trial_on cur (adj_in row) (o ∷ []) → None ≡ refused_from sems adj earlier (o ∷ rest)
  waits rest place told = sym (step (Wait place) rest (Some (Wait place)) (stop-is (stopped_at 0 cur (adj_in row) [] o) (Wait place) (wait-no-go place) told))

  pub refuses : (rest : List SemOper) (rule : Rule) (s : Stopped) → Refuse rule ≡ trial_on cur (adj_in row) (o ∷ []) → s ≡ record { oper = o; value = pos (value_of cur o.num); adj = adj_in row o.num; rule = rule } → Some s ≡ refused_from sems adj earlier (o ∷ rest)
  refuses rest rule s told is =
      let m = met_at cur (adj_in row) [] o.num in
      ap Some (is ∙ (λ i. record { oper = o; value = sym (plus_none (pos (value_of cur o.num))) i; adj = sym (minus_none (adj_in row o.num)) i; rule = rule }))
      ∙ sym (step (Refuse rule) rest (Some (Refuse rule)) (stop-is (stopped_at 0 cur (adj_in row) [] o) (Refuse rule) (refuse-no-go rule) told))

  -- and it is done
  module _ (cur2 : List Semaphore) (row2 : List ℤ) (within : o.num < length cur) (go : trial_on cur (adj_in row) (o ∷ []) ≡ Go) (set2 : cur2 ≡ committed (o ∷ []) 0 cur) (adj2 : (n : ℕ) → adj_in row2 n ≡ (if undoes o && o.num == n then adj_in row n -ℤ o.op else adj_in row n)) where
    fits : pos 0 ≤ℤ (pos (value_of cur o.num) +ℤ o.op)
    fits = subst (λ (z : ℤ). pos 0 ≤ℤ (z +ℤ o.op)) (plus_none (pos (value_of cur o.num))) (value_fits cur (adj_in row) (o ∷ []) go 0 (omega arith)).0

    left : IsLeft cur 0 (o ∷ []) cur2
    left =
        let s = set_to 0 (pos (value_of cur o.num) +ℤ o.op) in
        let more : IsLeft cur 0 (o ∷ []) (set cur o.num s) = left_more cur 0 [] cur o s (left_none cur 0) within refl fits in
        subst (IsLeft cur 0 (o ∷ [])) (left_is (o ∷ []) 0 cur (set cur o.num s) more ∙ sym set2) more

    pub same-len : length cur2 ≡ length cur
    same-len = left.len

    at : (n : ℕ) → (o.num ≡ n) ⊎ (o.num ≡ n → ⊥) → met_at cur2 (adj_in row2) [] n ≡ met_at sems adj (earlier ++ o ∷ []) n
    at n (inl e) =
        (λ i. record {
          value = (ap (λ (z : ℤ). z +ℤ pos 0) (left.values n) ∙ value-here (pos (value_of cur n)) _ o.op (part_here n o e)) i;
          adj = (ap (λ (z : ℤ). z -ℤ pos 0) (adj2 n) ∙ adj-here (undoes o) (o.num == n) (adj_in row n) o.op (here_true o.num n e)) i;
        })
        ∙ ap (λ (m : Met). met_after m o) (met n)
        ∙ sym (met_here sems adj earlier o n e)
    at n (inr e) =
        (λ i. record {
          value = (ap (λ (z : ℤ). z +ℤ pos 0) (left.values n) ∙ value-elsewhere (pos (value_of cur n)) _ (part_elsewhere n o e)) i;
          adj = (ap (λ (z : ℤ). z -ℤ pos 0) (adj2 n) ∙ adj-elsewhere (undoes o) (o.num == n) (adj_in row n) o.op (here_false o.num n e)) i;
        })
        ∙ met n
        ∙ sym (met_elsewhere sems adj earlier o n e)

    pub done : AreMet cur2 row2 sems adj (earlier ++ o ∷ [])
    done n = at n (cases_eq o.num n)

-- a set and semadj that agree at the semaphores which the operations name

abbrev pub AreAlike : List Semaphore → (ℕ → ℤ) → List Semaphore → (ℕ → ℤ) → SemOper → Type 0
AreAlike sems adj sems2 adj2 o = (value_of sems o.num ≡ value_of sems2 o.num) × (adj o.num ≡ adj2 o.num)

pub alike : (sems : List Semaphore) (adj : ℕ → ℤ) (sems2 : List Semaphore) (adj2 : ℕ → ℤ) (earlier ops : List SemOper) → AllByRecursion (AreAlike sems adj sems2 adj2) ops → refused_from sems adj earlier ops ≡ refused_from sems2 adj2 earlier ops
alike sems adj sems2 adj2 earlier [] h = refl
alike sems adj sems2 adj2 earlier (o ∷ os) h =
    let met : met_at sems adj earlier o.num ≡ met_at sems2 adj2 earlier o.num = λ i. record { value = pos (h.0.0 i) +ℤ sum_of (is_on o.num) earlier; adj = h.0.1 i -ℤ sum_of (undoes_on o.num) earlier } in
    let rest = alike sems adj sems2 adj2 (earlier ++ o ∷ []) os h.1 in
    λ i. by_stop o (met i) (stopped_by 0 (met i).value (met i).adj o) (rest i)

pub with-values : (sems : List Semaphore) (adj : ℕ → ℤ) (sems2 : List Semaphore) (adj2 : ℕ → ℤ) (ops : List SemOper) → ((n : ℕ) → value_of sems n ≡ value_of sems2 n) → AllByRecursion (λ o. adj o.num ≡ adj2 o.num) ops → AllByRecursion (AreAlike sems adj sems2 adj2) ops
with-values sems adj sems2 adj2 [] v h = tt
with-values sems adj sems2 adj2 (o ∷ os) v h = ((v o.num, h.0), with-values sems adj sems2 adj2 os v h.1)

-- a copy of the values of a set

copied-values : (sems : List Semaphore) (n : ℕ) → value_of (map (set_to 0) (integers_of sems)) n ≡ value_of sems n
copied-values [] n = refl
copied-values (s ∷ ss) zero = refl
copied-values (s ∷ ss) (suc n) = copied-values ss n

in-two-steps : (sems : List Semaphore) → map (λ v. pos v) (map (λ s. s.value) sems) ≡ integers_of sems
in-two-steps [] = refl
in-two-steps (s ∷ ss) = ap (λ (vs : List ℤ). pos s.value ∷ vs) (in-two-steps ss)

all-same : (adj : ℕ → ℤ) (ops : List SemOper) → AllByRecursion (λ o. adj o.num ≡ adj o.num) ops
all-same adj [] = tt
all-same adj (o ∷ os) = (refl, all-same adj os)

by-if : (can : Bool) (s : Option Stopped) → can ≡ false → None ≡ (if can then s else None)
by-if false s e = refl
by-if true s e = absurd (let q : true ≡ false = e in cc)

by-then : (can : Bool) (s t : Option Stopped) → can ≡ true → s ≡ t → s ≡ (if can then t else None)
by-then true s t e h = h
by-then false s t e h = absurd (let q : false ≡ true = e in cc)

none-below : (n : ℕ) (a b : Bool) → ((nat_lt n 0 && a) && b) ≡ true → ⊥
none-below n a b h = not-below (nat_lt n 0) a b (let e : nat_lt n 0 ≡ false = grind arith in e) h
  where
    not-below : (c a b : Bool) → c ≡ false → ((c && a) && b) ≡ true → ⊥
    not-below false a b e h = let q : false ≡ true = h in cc
    not-below true a b e h = let q : true ≡ false = e in cc

module _ (adj : ℕ → ℤ) where
  abbrev told : List SemOper → Option (Object SemSet) → Option Stopped
  told ops o = option_and_then (λ set. refused_by adj ops set.contents.semaphores) o

  abbrev copy : Option (Object SemSet) → List ℤ
  copy o = map (λ v. pos v) (unwrap_or (option_map values_of o) [])

  pub not-tried : (ops : List SemOper) (o : Option (Object SemSet)) → can_try_in (copy o) ops ≡ false → None ≡ told ops o
  not-tried ops None h = refl
  not-tried ops (Some set) h =
      let sems = set.contents.semaphores in
      by-if (can_try_in (integers_of sems) ops) (refused_from sems adj [] ops) (subst (λ (vs : List ℤ). can_try_in vs ops ≡ false) (in-two-steps sems) h)

  pub is-tried : (ops : List SemOper) (o : Option (Object SemSet)) → can_try_in (copy o) ops ≡ true → refused_from (map (set_to 0) (copy o)) adj [] ops ≡ told ops o
  is-tried [] None h = refl
  is-tried (p ∷ ps) None h = absurd (none-below p.num _ _ h)
  is-tried ops (Some set) h =
      let sems = set.contents.semaphores in
      let same : copy (Some set) ≡ integers_of sems = in-two-steps sems in
      by-then (can_try_in (integers_of sems) ops) _ (refused_from sems adj [] ops) (subst (λ (vs : List ℤ). can_try_in vs ops ≡ true) same h)
      (ap (λ (vs : List ℤ). refused_from (map (set_to 0) vs) adj [] ops) same
      ∙ alike (map (set_to 0) (integers_of sems)) adj sems adj [] ops (with-values (map (set_to 0) (integers_of sems)) adj sems adj ops (copied-values sems) (all-same adj ops)))

  -- with values that are those of the set
  pub not-copied : (ops : List SemOper) (o : Option (Object SemSet)) (values : List ℤ) → values ≡ copy o → can_try_in values ops ≡ false → None ≡ told ops o
  not-copied ops o values is h = not-tried ops o (subst (λ (vs : List ℤ). can_try_in vs ops ≡ false) is h)

  pub if-copied : (ops : List SemOper) (o : Option (Object SemSet)) (values : List ℤ) → values ≡ copy o → can_try_in values ops ≡ true → {E : Type 0} (r : Result (Option Stopped) E)
      → IfOk r (λ s. s ≡ refused_from (map (set_to 0) values) adj [] ops) → IfOk r (λ s. s ≡ told ops o)
  if-copied ops o values is h (Ok s) e = e ∙ ap (λ (vs : List ℤ). refused_from (map (set_to 0) vs) adj [] ops) is ∙ is-tried ops o (subst (λ (vs : List ℤ). can_try_in vs ops ≡ true) is h)
  if-copied ops o values is h (Err m) e = tt

-- what is there at each index

pub all-at : (P : SemOper → Type 0) (ops : List SemOper) → ((k : ℕ) → k < length ops → P (get_or ops k no_oper)) → AllByRecursion P ops
all-at P [] h = tt
all-at P (o ∷ os) h = (h 0 (omega arith), all-at P os (λ k l. h (suc k) (omega arith)))
