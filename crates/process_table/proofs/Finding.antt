-- What the first thread of a pid tells of all.
use Rattle.std.proofs.Common.{◌≡◌, ◌≢◌, ℕ, zero, suc, ◌<◌, ◌≤◌, Bool, true, false, cond, eqb, List, [], ◌∷◌, length, refl, sym, ap, ◌∙◌, ⊎_elim, Option, Some, None, arith}
use Rattle.std.specs.Prelude.{◌||◌, ◌&&◌, not, is_some, IfNone, IfSome}
use Rattle.std.specs.List.{find, list_any}
use Rattle.std.specs.Option.{option_map}
use Rattle.std.proofs.lemmas.Bool.{cases_Bool, cases_eq, eq-eqb, ne_eqb, true≢false}
use Rattle.std.proofs.lemmas.Option.{none-some, same_Some}
use Rattle.ipc_model.specs.State.{Thread, has_pid}
use Rattle.ipc_model.specs.Processes.{is_other}
use Rattle.ipc_model.specs.Tidy.{AreNumbered, thread_in}
use Rattle.process_table.proofs.Indexing.{and-false, known-live, of-pid}

module _ (test : Thread → Bool) where
  find-none : (ts : List Thread) → ((c : ℕ) → test (thread_in ts c) ≡ false) → find test ts ≡ None
  find-none [] none = refl
  find-none (t ∷ ts) none = (λ i. cond (none zero i) (Some t) (find test ts)) ∙ find-none ts (λ c. none (suc c))

  find-first : (ts : List Thread) (c : ℕ) → c < length ts → test (thread_in ts c) ≡ true → ((d : ℕ) → d < c → test (thread_in ts d) ≡ false) → find test ts ≡ Some (thread_in ts c)
  find-first [] c known is least = absurd (omega (arith, known))
  find-first (t ∷ ts) zero known is least = λ i. cond (is i) (Some t) (find test ts)
  find-first (t ∷ ts) (suc c) known is least =
      (λ i. cond (least zero (omega arith) i) (Some t) (find test ts)) ∙ find-first ts c (omega (arith, known)) is (λ d lt. least (suc d) (omega (arith, lt)))

  find-passes : (ts : List Thread) (t : Thread) → find test ts ≡ Some t → test t ≡ true
  find-passes [] t found = absurd (none-some t found)
  find-passes (x ∷ ts) t found = by (test x) refl found (find-passes ts t)
    where
      by : (b : Bool) → test x ≡ b → cond b (Some x) (find test ts) ≡ Some t → (find test ts ≡ Some t → test t ≡ true) → test t ≡ true
      by true here same rest = ap test (sym (same_Some x t same)) ∙ here
      by false other same rest = rest same

  pub any-find : (ts : List Thread) → is_some (find test ts) ≡ list_any test ts
  any-find [] = refl
  any-find (t ∷ ts) = by (test t) (any-find ts)
    where
      by : (b : Bool) → is_some (find test ts) ≡ list_any test ts → is_some (cond b (Some t) (find test ts)) ≡ b || list_any test ts
      by true same = refl
      by false same = same

  pub any-none : (ts : List Thread) → ((c : ℕ) → test (thread_in ts c) ≡ false) → list_any test ts ≡ false
  any-none [] none = refl
  any-none (t ∷ ts) none = (λ i. none zero i || list_any test ts) ∙ any-none ts (λ c. none (suc c))

  pub any-at : (ts : List Thread) (c : ℕ) → c < length ts → test (thread_in ts c) ≡ true → list_any test ts ≡ true
  any-at [] c known is = absurd (omega (arith, known))
  any-at (t ∷ ts) zero known is = λ i. is i || list_any test ts
  any-at (t ∷ ts) (suc c) known is = by (test t) (any-at ts c (omega (arith, known)) is)
    where
      by : (b : Bool) → list_any test ts ≡ true → b || list_any test ts ≡ true
      by true later = refl
      by false later = later

-- tests that are the same of each thread
pub any-alike : (f g : Thread → Bool) (ts : List Thread) → ((c : ℕ) → c < length ts → f (thread_in ts c) ≡ g (thread_in ts c)) → list_any f ts ≡ list_any g ts
any-alike f g [] same = refl
any-alike f g (t ∷ ts) same = λ i. same zero (omega arith) i || any-alike f g ts (λ c known. same (suc c) (omega (arith, known))) i

-- the first client of a pid
module _ (ts : List Thread) (pid : ℕ) where
  pub first-found : (o : Option ℕ) → IfNone o ((c : ℕ) → 0 ≤ c → has_pid pid (thread_in ts c) ≡ false) → IfSome o (λ client. has_pid pid (thread_in ts client) ≡ true)
      → IfSome o (λ client. (c : ℕ) → 0 ≤ c → c < client → has_pid pid (thread_in ts c) ≡ false) → option_map (thread_in ts) o ≡ find (has_pid pid) ts
  first-found None none there least = sym (find-none (has_pid pid) ts (λ c. none c (omega arith)))
  first-found (Some client) none there least =
      sym (find-first (has_pid pid) ts client (known-live ts client (of-pid (thread_in ts client) pid there).1) there (λ d lt. least d (omega arith) lt))

  pub some-first : (o : Option ℕ) → option_map (thread_in ts) o ≡ find (has_pid pid) ts → is_some o ≡ list_any (has_pid pid) ts
  some-first o is = by o ∙ ap is_some is ∙ any-find (has_pid pid) ts
    where
      by : (o : Option ℕ) → is_some o ≡ is_some (option_map (thread_in ts) o)
      by None = refl
      by (Some client) = refl

  none-first : None ≡ find (has_pid pid) ts → list_any (has_pid pid) ts ≡ false
  none-first is = sym (ap is_some is ∙ any-find (has_pid pid) ts)

  -- another process has the pid, where the first thread of the pid is of one
  pub other-none : (process : ℕ) → None ≡ find (has_pid pid) ts → list_any (is_other process pid) ts ≡ false
  other-none process is = none-of ts (none-first is)
    where
      either : (a b c d : Bool) → a || b ≡ false → (b ≡ false → d ≡ false) → (a && c) || d ≡ false
      either true b c d none rest = absurd (true≢false none)
      either false b c d none rest = rest none

      none-of : (xs : List Thread) → list_any (has_pid pid) xs ≡ false → list_any (is_other process pid) xs ≡ false
      none-of [] none = refl
      none-of (x ∷ xs) none = either (has_pid pid x) (list_any (has_pid pid) xs) (not (eqb x.process process)) (list_any (is_other process pid) xs) none (none-of xs)

  pub found-at : (client : ℕ) → Some (thread_in ts client) ≡ find (has_pid pid) ts → has_pid pid (thread_in ts client) ≡ true
  found-at client is = find-passes (has_pid pid) ts (thread_in ts client) (sym is)

  pub other-first : (next process client : ℕ) → AreNumbered ts next → has_pid pid (thread_in ts client) ≡ true
      → list_any (is_other process pid) ts ≡ not (eqb (thread_in ts client).process process)
  other-first next process client numbered is = ⊎_elim
      (λ (same : (thread_in ts client).process ≡ process).
      any-none (is_other process pid) ts (λ c. own c same) ∙ sym (λ i. not (eq-eqb (thread_in ts client).process process same i)))
      (λ (apart : (thread_in ts client).process ≡ process → ⊥).
      any-at (is_other process pid) ts client (known-live ts client (of-pid (thread_in ts client) pid is).1) (λ i. is i && not (ne_eqb (thread_in ts client).process process apart i))
      ∙ sym (λ i. not (ne_eqb (thread_in ts client).process process apart i)))
      (cases_eq (thread_in ts client).process process)
    where
      own : (c : ℕ) → (thread_in ts client).process ≡ process → is_other process pid (thread_in ts c) ≡ false
      own c same = ⊎_elim
          (λ (also : has_pid pid (thread_in ts c) ≡ true).
          let one = of-pid (thread_in ts client) pid is in
          let other = of-pid (thread_in ts c) pid also in
          let e : (thread_in ts c).process ≡ process = numbered.once c client other.1 one.1 (other.0 ∙ sym one.0) ∙ same in
          (λ i. has_pid pid (thread_in ts c) && not (eq-eqb (thread_in ts c).process process e i)) ∙ and-false (has_pid pid (thread_in ts c)))
          (λ (isnt : has_pid pid (thread_in ts c) ≡ false). λ i. isnt i && not (eqb (thread_in ts c).process process))
          (cases_Bool (has_pid pid (thread_in ts c)))
