-- What operations lower one after another is what their sums lower.
use Rattle.std.proofs.Common.{◌≡◌, ℕ, ℤ, pos, Bool, true, false, List, [], ◌∷◌, ◌+◌, ◌-ℤ◌, drop, refl, sym, ap, subst, ◌∙◌, ⊎_elim, arith, Option}
use Rattle.std.specs.Prelude.{◌==◌, ◌&&◌, ◌||◌, ◌+ℤ◌, filter, if◌then◌else◌, map}
use Rattle.std.specs.List.{list_any}
use Rattle.std.specs.FinMap as finite
use Rattle.std.proofs.lemmas.Bool.{cases_Bool, cases_eq, eq-eqb, ne_eqb, or_parts, true≢false}
use Rattle.std.proofs.lemmas.Int.{ints}
use Rattle.ipc_call.specs.declared.calls.SemOper.{SemOper}
use Rattle.sem_set.specs.Trials.{sum_of, undoes, undoes_on}
use Rattle.sem_undo.specs.Entries.{Adjusted, Entries, adj_of, with_adj}
use Rattle.sem_undo.proofs.Entries.{entry_of, get_with_apart, get_with_here, key, same_entries}
use Rattle.ipc_model.specs.Semaphores.{lowered, with_adjs}
use Rattle.sem_calls.specs.Operations.{lowered_by}
use Rattle.sem_calls.proofs.Ranging.{adj-elsewhere, adj-here}

-- the semaphores of the operations that exit undoes
abbrev undone_nums : List SemOper → List ℕ
undone_nums ops = map (λ o. o.num) (filter undoes ops)

abbrev names : List ℕ → ℕ → Bool
names nums n = list_any (λ k. k == n) nums

module _ (client id : ℕ) where
  -- what is found where semadj were written
  module _ (m : Entries) (adj : ℕ → ℤ) where
    get-adjs : (nums : List ℕ) (n : ℕ) → finite.get (with_adjs m client id adj nums) (key client id n) ≡ (if names nums n then entry_of (adj n) else finite.get m (key client id n))
    get-adjs [] n = refl
    get-adjs (num ∷ nums) n = ⊎_elim
        (λ (same : num ≡ n).
        get_with_here (with_adjs m client id adj nums) (key client id num) (key client id n) (adj num) (λ i. key client id (sym same i))
        ∙ ap (λ k. entry_of (adj k)) same ∙ sym (ap (λ b. if b || names nums n then entry_of (adj n) else finite.get m (key client id n)) (eq-eqb num n same)))
        (λ (other : num ≡ n → ⊥).
        get_with_apart (with_adjs m client id adj nums) (key client id num) (key client id n) (adj num) (λ e. other (sym (ap (λ (k : Adjusted). k.num) e)))
        ∙ get-adjs nums n ∙ sym (ap (λ b. if b || names nums n then entry_of (adj n) else finite.get m (key client id n)) (ne_eqb num n other)))
        (cases_eq num n)

    get-off : (nums : List ℕ) (q : Adjusted) → (q.client ≡ client → q.set ≡ id → ⊥) → finite.get (with_adjs m client id adj nums) q ≡ finite.get m q
    get-off [] q off = refl
    get-off (num ∷ nums) q off =
        get_with_apart (with_adjs m client id adj nums) (key client id num) q (adj num) (λ e. off (ap (λ (k : Adjusted). k.client) e) (ap (λ (k : Adjusted). k.set) e)) ∙ get-off nums q off

  -- nothing of the operations that exit undoes is on a semaphore that none of them names
  sum-none : (os : List SemOper) (n : ℕ) → names (undone_nums os) n ≡ false → sum_of (undoes_on n) os ≡ pos 0
  sum-none [] n none = refl
  sum-none (o ∷ os) n none = ⊎_elim
      (λ (does : undoes o ≡ true).
      let there : ((o.num == n) || names (undone_nums os) n) ≡ false = rw does at none in
      let parts = or_parts (o.num == n) (names (undone_nums os) n) there in
      let rest = sum-none os n parts.1 in
      let part : (if undoes_on n o then o.op else pos 0) ≡ pos 0 = (λ i. if does i && parts.0 i then o.op else pos 0) in
      (λ i. part i +ℤ rest i))
      (λ (not_so : undoes o ≡ false).
      let later : names (undone_nums os) n ≡ false = rw not_so at none in
      let rest = sum-none os n later in
      let part : (if undoes_on n o then o.op else pos 0) ≡ pos 0 = ap (λ b. if b && (o.num == n) then o.op else pos 0) not_so in
      (λ i. part i +ℤ rest i))
      (cases_Bool (undoes o))

  chosen : (b c : Bool) (x y : ℤ) (p q : Option ℤ) → b ≡ c → (b ≡ true → x ≡ y) → (b ≡ false → p ≡ q) → (if b then entry_of x else p) ≡ (if c then entry_of y else q)
  chosen true true x y p q same if_so if_not = ap entry_of (if_so refl)
  chosen false false x y p q same if_so if_not = if_not refl
  chosen true false x y p q same if_so if_not = absurd (true≢false same)
  chosen false true x y p q same if_so if_not = absurd (true≢false (sym same))

  less-none : (a s : ℤ) → a -ℤ (pos 0 +ℤ s) ≡ a -ℤ s
  less-none a s = omega (arith, ints)

  less-both : (a b s : ℤ) → a -ℤ (b +ℤ s) ≡ (a -ℤ b) -ℤ s
  less-both a b s = omega (arith, ints)

  less-zero : (a b s : ℤ) → s ≡ pos 0 → a -ℤ (b +ℤ s) ≡ a -ℤ b
  less-zero a b s zero = omega (arith, ints)

  module _ (m : Entries) (o : SemOper) (os : List SemOper) where
    abbrev next : Entries
    next = lowered_by m client id o

    abbrev all_lowered : ℕ → ℤ
    all_lowered n = adj_of m client id n -ℤ sum_of (undoes_on n) (o ∷ os)

    abbrev rest_lowered : ℕ → ℤ
    rest_lowered n = adj_of next client id n -ℤ sum_of (undoes_on n) os

    abbrev IsSameAt : ℕ → Type 0
    IsSameAt n = (if names (undone_nums (o ∷ os)) n then entry_of (all_lowered n) else finite.get m (key client id n)) ≡ (if names (undone_nums os) n then entry_of (rest_lowered n) else finite.get next (key client id n))

    -- an operation that exit doesn't undo
    same-plain : undoes o ≡ false → (n : ℕ) → IsSameAt n
    same-plain not_so n =
        let sum = sum_of (undoes_on n) os in
        let left : next ≡ m = rw not_so refl in
        let nums : undone_nums (o ∷ os) ≡ undone_nums os = rw not_so refl in
        let part : (if undoes_on n o then o.op else pos 0) ≡ pos 0 = ap (λ b. if b && (o.num == n) then o.op else pos 0) not_so in
        chosen (names (undone_nums (o ∷ os)) n) (names (undone_nums os) n) (all_lowered n) (rest_lowered n) (finite.get m (key client id n)) (finite.get next (key client id n))
        (ap (λ ns. names ns n) nums)
        (λ yes. ap (λ z. adj_of m client id n -ℤ (z +ℤ sum)) part ∙ less-none (adj_of m client id n) sum ∙ ap (λ u. adj_of u client id n -ℤ sum) (sym left))
        (λ no. ap (λ u. finite.get u (key client id n)) (sym left))

    module _ (does : undoes o ≡ true) where
      nums-more : undone_nums (o ∷ os) ≡ o.num ∷ undone_nums os
      nums-more = rw does refl

      -- on another semaphore
      same-other : (n : ℕ) → (o.num ≡ n → ⊥) → IsSameAt n
      same-other n other =
          let sum = sum_of (undoes_on n) os in
          let apart : (o.num == n) ≡ false = ne_eqb o.num n other in
          let part : (if undoes_on n o then o.op else pos 0) ≡ pos 0 = (λ i. if does i && apart i then o.op else pos 0) in
          chosen (names (undone_nums (o ∷ os)) n) (names (undone_nums os) n) (all_lowered n) (rest_lowered n) (finite.get m (key client id n)) (finite.get next (key client id n))
          (ap (λ ns. names ns n) nums-more ∙ ap (λ b. b || names (undone_nums os) n) apart)
          (λ yes. ap (λ z. adj_of m client id n -ℤ (z +ℤ sum)) part ∙ less-none (adj_of m client id n) sum ∙ ap (λ a. a -ℤ sum) (sym (adj-elsewhere m client id o n other)))
          (λ no. sym (ap (λ b. finite.get (if b then with_adj m (key client id o.num) (adj_of m client id o.num -ℤ o.op) else m) (key client id n)) does
          ∙ get_with_apart m (key client id o.num) (key client id n) (adj_of m client id o.num -ℤ o.op) (λ e. other (sym (ap (λ (k : Adjusted). k.num) e)))))

      -- on its own
      same-own : (n : ℕ) → o.num ≡ n → IsSameAt n
      same-own n same =
          let sum = sum_of (undoes_on n) os in
          let here : (o.num == n) ≡ true = eq-eqb o.num n same in
          let part : (if undoes_on n o then o.op else pos 0) ≡ o.op = (λ i. if does i && here i then o.op else pos 0) in
          let named : names (undone_nums (o ∷ os)) n ≡ true = ap (λ ns. names ns n) nums-more ∙ ap (λ b. b || names (undone_nums os) n) here in
          let value : all_lowered n ≡ adj_of m client id n -ℤ (o.op +ℤ sum) = ap (λ z. adj_of m client id n -ℤ (z +ℤ sum)) part in
          let lower : adj_of next client id n ≡ adj_of m client id n -ℤ o.op = adj-here m client id o n (sym same) ∙ ap (λ b. if b then adj_of m client id n -ℤ o.op else adj_of m client id n) does in
          let written : finite.get next (key client id n) ≡ entry_of (adj_of m client id n -ℤ o.op) =
          ap (λ b. finite.get (if b then with_adj m (key client id o.num) (adj_of m client id o.num -ℤ o.op) else m) (key client id n)) does
          ∙ get_with_here m (key client id o.num) (key client id n) (adj_of m client id o.num -ℤ o.op) (λ i. key client id (sym same i)) ∙ ap (λ k. entry_of (adj_of m client id k -ℤ o.op)) same in
          ap (λ b. if b then entry_of (all_lowered n) else finite.get m (key client id n)) named
          ∙ ap entry_of value
          ∙ ⊎_elim
          (λ (yes : names (undone_nums os) n ≡ true).
          ap entry_of (less-both (adj_of m client id n) o.op sum ∙ ap (λ a. a -ℤ sum) (sym lower)) ∙ ap (λ b. if b then entry_of (rest_lowered n) else finite.get next (key client id n)) (sym yes))
          (λ (no : names (undone_nums os) n ≡ false).
          ap entry_of (less-zero (adj_of m client id n) o.op sum (sum-none os n no)) ∙ sym written ∙ ap (λ b. if b then entry_of (rest_lowered n) else finite.get next (key client id n)) (sym no))
          (cases_Bool (names (undone_nums os) n))

    same-at : (n : ℕ) → IsSameAt n
    same-at n = ⊎_elim
        (λ (does : undoes o ≡ true). ⊎_elim (λ (own : o.num ≡ n). same-own does n own) (λ (other : o.num ≡ n → ⊥). same-other does n other) (cases_eq o.num n))
        (λ (not_so : undoes o ≡ false). same-plain not_so n)
        (cases_Bool (undoes o))

    next-off : (q : Adjusted) → (q.client ≡ client → q.set ≡ id → ⊥) → finite.get next q ≡ finite.get m q
    next-off q off = by (undoes o)
      where
        by : (b : Bool) → finite.get (if b then with_adj m (key client id o.num) (adj_of m client id o.num -ℤ o.op) else m) q ≡ finite.get m q
        by true = get_with_apart m (key client id o.num) q (adj_of m client id o.num -ℤ o.op) (λ e. off (ap (λ (k : Adjusted). k.client) e) (ap (λ (k : Adjusted). k.set) e))
        by false = refl

    on-row : (n : ℕ) → finite.get (lowered m client id (o ∷ os)) (key client id n) ≡ finite.get (lowered next client id os) (key client id n)
    on-row n = get-adjs m all_lowered (undone_nums (o ∷ os)) n ∙ same-at n ∙ sym (get-adjs next rest_lowered (undone_nums os) n)

    off-row : (q : Adjusted) → (q.client ≡ client → q.set ≡ id → ⊥) → finite.get (lowered m client id (o ∷ os)) q ≡ finite.get (lowered next client id os) q
    off-row q off = get-off m all_lowered (undone_nums (o ∷ os)) q off ∙ sym (next-off q off) ∙ sym (get-off next rest_lowered (undone_nums os) q off)

    at-key : (q : Adjusted) → finite.get (lowered m client id (o ∷ os)) q ≡ finite.get (lowered next client id os) q
    at-key q = ⊎_elim
        (λ (own : q.client ≡ client).
        ⊎_elim
        (λ (here : q.set ≡ id).
        let there : key client id q.num ≡ q = λ i. key (sym own i) (sym here i) q.num in
        subst (λ k. finite.get (lowered m client id (o ∷ os)) k ≡ finite.get (lowered next client id os) k) there (on-row q.num))
        (λ (other : q.set ≡ id → ⊥). off-row q (λ c s. other s))
        (cases_eq q.set id))
        (λ (other : q.client ≡ client → ⊥). off-row q (λ c s. other c))
        (cases_eq q.client client)

    -- the first operation lowers, and then the rest
    pub lowered-cons : lowered m client id (o ∷ os) ≡ lowered (lowered_by m client id o) client id os
    lowered-cons = same_entries (lowered m client id (o ∷ os)) (lowered (lowered_by m client id o) client id os) at-key

  -- so does the next of operations in a list
  pub lowered-next : (old m : Entries) (ops : List SemOper) (i : ℕ) (o : SemOper) → drop i ops ≡ o ∷ drop (i + 1) ops → lowered m client id (drop i ops) ≡ lowered old client id ops
      → lowered (lowered_by m client id o) client id (drop (i + 1) ops) ≡ lowered old client id ops
  lowered-next old m ops i o next left = sym (lowered-cons m o (drop (i + 1) ops)) ∙ ap (lowered m client id) (sym next) ∙ left
