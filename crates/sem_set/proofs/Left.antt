-- What a commit leaves, operation by operation.
use Rattle.std.proofs.Common.{ℕ, ◌+◌, ◌<◌, ◌≡◌, ◌∙◌, ap, sym, refl, subst, suc, Bool, true, false, arith, ℤ, pos, ◌+ℤ◌, ◌≤ℤ◌, List, [], ◌∷◌, ◌++◌, length, take, get_or, set, length-set, ⊎_elim}
use Rattle.std.specs.Prelude.{◌==◌, ◌||◌, nat_abs, if◌then◌else◌}
use Rattle.std.specs.List.{list_any}
use Rattle.std.proofs.Math.IntN.{negsuc}
use Rattle.std.proofs.lemmas.Int.{ints}
use Rattle.std.proofs.lemmas.Bool.{cases_eq}
use Rattle.std.proofs.lemmas.List.{get_or-set_same, get_or-set_other, take_more}
use Rattle.std.proofs.lemmas.List.Folds.{list_any-append}
use Rattle.ipc_call.specs.declared.calls.SemOper.{SemOper}
use Rattle.sem_set.specs.declared.set.Semaphore.{Semaphore}
use Rattle.sem_set.specs.Sets.{pid_of, set_to, value_of, zeroed}
use Rattle.sem_set.specs.Trials.{committed, is_on, left_at, left_from, sum_of}
use Rattle.sem_set.proofs.Running.{no_oper, part_here, part_elsewhere, sum_more, sum_none, sum_step}

pos_abs : (z : ℤ) → pos 0 ≤ℤ z → pos (nat_abs z) ≡ z
pos_abs (pos n) h = refl
pos_abs (negsuc n) h = absurd (omega (arith, ints))

-- each semaphore has its value with the operations so far on it, and their process where one names it
pub record IsLeft (sems : List Semaphore) (pid : ℕ) (os : List SemOper) (cur : List Semaphore) : Type 0 where
  pub len : length cur ≡ length sems
  pub values : (n : ℕ) → pos (value_of cur n) ≡ pos (value_of sems n) +ℤ sum_of (is_on n) os
  pub pids : (n : ℕ) → pid_of cur n ≡ (if list_any (is_on n) os then pid else pid_of sems n)

plus_none : (z : ℤ) → z ≡ z +ℤ pos 0
plus_none z = omega (arith, ints)

pub left_none : (sems : List Semaphore) (pid : ℕ) → IsLeft sems pid [] sems
left_none sems pid = record { len = refl; values = λ n. plus_none (pos (value_of sems n)); pids = λ n. refl }

any_here : (any here : Bool) (pid old : ℕ) → here ≡ true → pid ≡ (if any || (here || false) then pid else old)
any_here true true pid old h = refl
any_here false true pid old h = refl
any_here any false pid old h = absurd (let e : false ≡ true = h in cc)

any_elsewhere : (any here : Bool) (pid old : ℕ) → here ≡ false → (if any then pid else old) ≡ (if any || (here || false) then pid else old)
any_elsewhere true false pid old h = refl
any_elsewhere false false pid old h = refl
any_elsewhere any true pid old h = absurd (let e : true ≡ false = h in cc)

here_true : (a b : ℕ) → a ≡ b → (a == b) ≡ true
here_true a b e = grind arith

here_false : (a b : ℕ) → (a ≡ b → ⊥) → (a == b) ≡ false
here_false a b e = grind arith

module _ (sems : List Semaphore) (pid : ℕ) (os : List SemOper) (cur : List Semaphore) (o : SemOper) (s : Semaphore) (left : IsLeft sems pid os cur) (within : o.num < length cur) (is : s ≡ set_to pid (pos (value_of cur o.num) +ℤ o.op)) (fits : pos 0 ≤ℤ (pos (value_of cur o.num) +ℤ o.op)) where
  value_here : (n : ℕ) → o.num ≡ n → pos (value_of (set cur o.num s) n) ≡ pos (value_of sems n) +ℤ sum_of (is_on n) (os ++ o ∷ [])
  value_here n e =
      ap (λ (x : ℕ). pos (get_or (set cur o.num s) x zeroed).value) (sym e)
      ∙ ap (λ (x : Semaphore). pos x.value) (get_or-set_same cur o.num s zeroed within ∙ is)
      ∙ pos_abs (pos (value_of cur o.num) +ℤ o.op) fits
      ∙ ap (λ (x : ℕ). pos (value_of cur x) +ℤ o.op) e
      ∙ ap (λ (z : ℤ). z +ℤ o.op) (left.values n)
      ∙ sym (sum_step (pos (value_of sems n)) (sum_of (is_on n) os) o.op)
      ∙ ap (λ (z : ℤ). pos (value_of sems n) +ℤ z) (ap (λ (z : ℤ). sum_of (is_on n) os +ℤ z) (sym (part_here n o e)) ∙ sym (sum_more (is_on n) os o))

  value_elsewhere : (n : ℕ) → (o.num ≡ n → ⊥) → pos (value_of (set cur o.num s) n) ≡ pos (value_of sems n) +ℤ sum_of (is_on n) (os ++ o ∷ [])
  value_elsewhere n e =
      ap (λ (x : Semaphore). pos x.value) (get_or-set_other cur o.num n s zeroed (λ q. e (sym q)))
      ∙ left.values n
      ∙ ap (λ (z : ℤ). pos (value_of sems n) +ℤ z) (plus_none (sum_of (is_on n) os) ∙ ap (λ (z : ℤ). sum_of (is_on n) os +ℤ z) (sym (part_elsewhere n o e)) ∙ sym (sum_more (is_on n) os o))

  pid_after : (n : ℕ) → (if list_any (is_on n) (os ++ o ∷ []) then pid else pid_of sems n) ≡ (if list_any (is_on n) os || (is_on n o || false) then pid else pid_of sems n)
  pid_after n = ap (λ (b : Bool). if b then pid else pid_of sems n) (list_any-append (is_on n) os (o ∷ []))

  pid_here : (n : ℕ) → o.num ≡ n → pid_of (set cur o.num s) n ≡ (if list_any (is_on n) (os ++ o ∷ []) then pid else pid_of sems n)
  pid_here n e =
      ap (λ (x : ℕ). (get_or (set cur o.num s) x zeroed).pid) (sym e)
      ∙ ap (λ (x : Semaphore). x.pid) (get_or-set_same cur o.num s zeroed within ∙ is)
      ∙ any_here (list_any (is_on n) os) (is_on n o) pid (pid_of sems n) (here_true o.num n e)
      ∙ sym (pid_after n)

  pid_elsewhere : (n : ℕ) → (o.num ≡ n → ⊥) → pid_of (set cur o.num s) n ≡ (if list_any (is_on n) (os ++ o ∷ []) then pid else pid_of sems n)
  pid_elsewhere n e =
      ap (λ (x : Semaphore). x.pid) (get_or-set_other cur o.num n s zeroed (λ q. e (sym q)))
      ∙ left.pids n
      ∙ any_elsewhere (list_any (is_on n) os) (is_on n o) pid (pid_of sems n) (here_false o.num n e)
      ∙ sym (pid_after n)

  -- one more operation
  pub left_more : IsLeft sems pid (os ++ o ∷ []) (set cur o.num s)
  left_more = record {
    len = length-set cur o.num s ∙ left.len;
    values = λ n. ⊎_elim (value_here n) (value_elsewhere n) (cases_eq o.num n);
    pids = λ n. ⊎_elim (pid_here n) (pid_elsewhere n) (cases_eq o.num n);
  }

-- a semaphore that has all that is left of it
same : (s c : Semaphore) (any : Bool) (pid : ℕ) (sum : ℤ) → (any ≡ false → sum ≡ pos 0) → pos c.value ≡ pos s.value +ℤ sum → c.pid ≡ (if any then pid else s.pid) → c ≡ (if any then set_to pid (pos s.value +ℤ sum) else s)
same s c true pid sum none v p = λ i. record { value = nat_abs (v i); pid = p i }
same s c false pid sum none v p =
    λ i. record { value = nat_abs ((v ∙ ap (λ (z : ℤ). pos s.value +ℤ z) (none refl) ∙ sym (plus_none (pos s.value))) i); pid = p i }

left_all : (first : ℕ) (ops : List SemOper) (pid : ℕ) (sems cur : List Semaphore) → length cur ≡ length sems → ((k : ℕ) → pos (value_of cur k) ≡ pos (value_of sems k) +ℤ sum_of (is_on (first + k)) ops) → ((k : ℕ) → pid_of cur k ≡ (if list_any (is_on (first + k)) ops then pid else pid_of sems k)) → cur ≡ left_from first ops pid sems
left_all first ops pid [] [] len values pids = refl
left_all first ops pid [] (c ∷ cur) len values pids = absurd (omega arith)
left_all first ops pid (s ∷ sems) [] len values pids = absurd (omega arith)
left_all first ops pid (s ∷ sems) (c ∷ cur) len values pids =
    let none : first + 0 ≡ first = omega arith in
    let head : c ≡ left_at ops pid first s = subst (λ (n : ℕ). c ≡ left_at ops pid n s) none (same s c (list_any (is_on (first + 0)) ops) pid (sum_of (is_on (first + 0)) ops) (sum_none (first + 0) ops) (values 0) (pids 0)) in
    let tail : cur ≡ left_from (first + 1) ops pid sems = left_all (first + 1) ops pid sems cur (omega arith) (λ k. let e : first + suc k ≡ (first + 1) + k = omega arith in subst (λ (n : ℕ). pos (value_of cur k) ≡ pos (value_of sems k) +ℤ sum_of (is_on n) ops) e (values (suc k))) (λ k. let e : first + suc k ≡ (first + 1) + k = omega arith in subst (λ (n : ℕ). pid_of cur k ≡ (if list_any (is_on n) ops then pid else pid_of sems k)) e (pids (suc k))) in
    λ i. head i ∷ tail i

-- all operations were done
pub left_is : (ops : List SemOper) (pid : ℕ) (sems cur : List Semaphore) → IsLeft sems pid ops cur → cur ≡ committed ops pid sems
left_is ops pid sems cur left =
    left_all 0 ops pid sems cur left.len
    (λ k. let e : k ≡ 0 + k = omega arith in subst (λ (n : ℕ). pos (value_of cur k) ≡ pos (value_of sems k) +ℤ sum_of (is_on n) ops) e (left.values k))
    (λ k. let e : k ≡ 0 + k = omega arith in subst (λ (n : ℕ). pid_of cur k ≡ (if list_any (is_on n) ops then pid else pid_of sems k)) e (left.pids k))

-- one more of the operations of a call
pub left_step : (sems : List Semaphore) (pid : ℕ) (ops : List SemOper) (i : ℕ) (cur : List Semaphore) (num : ℕ) (s : Semaphore) → i < length ops → num ≡ (get_or ops i no_oper).num → num < length cur → s ≡ set_to pid (pos (value_of cur num) +ℤ (get_or ops i no_oper).op) → pos 0 ≤ℤ (pos (value_of cur num) +ℤ (get_or ops i no_oper).op) → IsLeft sems pid (take i ops) cur → IsLeft sems pid (take (i + 1) ops) (set cur num s)
left_step sems pid ops i cur num s h e within is fits left =
    let o : SemOper = get_or ops i no_oper in
    let there : o.num < length cur = omega arith in
    let more : IsLeft sems pid (take i ops ++ o ∷ []) (set cur o.num s) = left_more sems pid (take i ops) cur o s left there (is ∙ ap (λ (x : ℕ). set_to pid (pos (value_of cur x) +ℤ o.op)) e) (subst (λ (x : ℕ). pos 0 ≤ℤ (pos (value_of cur x) +ℤ o.op)) e fits) in
    subst (λ (x : ℕ). IsLeft sems pid (take (i + 1) ops) (set cur x s)) (sym e) (subst (λ (os : List SemOper). IsLeft sems pid os (set cur o.num s)) (sym (take_more ops i no_oper h)) more)
