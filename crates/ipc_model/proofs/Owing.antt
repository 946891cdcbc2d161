-- Each semadj is of a process that runs: what semop, SETVAL, IPC_RMID and the end of a process leave of them.
use Rattle.std.proofs.Common.{◌≡◌, ◌≢◌, ℕ, ℤ, Bool, true, false, cond, List, [], ◌∷◌, refl, sym, ap, subst, ◌∙◌, ⊎_elim, Option, Some, None}
use Rattle.std.specs.Prelude.{◌==◌, ◌-ℤ◌, filter, map, not}
use Rattle.std.specs.FinMap as finite
use Rattle.std.proofs.lemmas.Bool.{cases_eq, eq-eqb, true≢false}
use Rattle.std.proofs.lemmas.Option.{none-some}
use Rattle.ipc_call.specs.declared.calls.SemOper.{SemOper}
use Rattle.sem_set.specs.Trials.{sum_of, undoes, undoes_on}
use Rattle.sem_undo.specs.Entries.{Adjusted, Entries, adj_of, without_client}
use Rattle.sem_undo.proofs.Entries.{get_kept, get_with_apart, key}
use Rattle.ipc_model.specs.State.{Thread}
use Rattle.ipc_model.specs.Semaphores.{lowered, with_adjs}
use Rattle.ipc_model.specs.Tidy.{AreOwed, Runs}

-- a semop lowers semadj of its process alone
adjs-other : (process id : ℕ) (adj : ℕ → ℤ) (nums : List ℕ) (m : Entries) (q : Adjusted) → q.client ≢ process → finite.get (with_adjs m process id adj nums) q ≡ finite.get m q
adjs-other process id adj [] m q other = refl
adjs-other process id adj (num ∷ nums) m q other =
    get_with_apart (with_adjs m process id adj nums) (key process id num) q (adj num) (λ e. other (ap (λ (k : Adjusted). k.client) e)) ∙ adjs-other process id adj nums m q other

kept-there : (b : Bool) (o : Option ℤ) (v : ℤ) → cond b o None ≡ Some v → (b ≡ true) × (o ≡ Some v)
kept-there true o v is = (refl, is)
kept-there false o v is = absurd (none-some v is)

module _ (ts : List Thread) (m : Entries) (owed : AreOwed ts m) where
  pub owed-lowered : (process id : ℕ) (ops : List SemOper) → Runs ts process → AreOwed ts (lowered m process id ops)
  owed-lowered process id ops runs q v there = ⊎_elim
      (λ (same : q.client ≡ process). subst (Runs ts) (sym same) runs)
      (λ (other : q.client ≡ process → ⊥).
      owed q v (sym (adjs-other process id (λ num. adj_of m process id num -ℤ sum_of (undoes_on num) ops) (map (λ o. o.num) (filter undoes ops)) m q other) ∙ there))
      (cases_eq q.client process)

  pub owed-kept : (stays : Adjusted → Bool) → AreOwed ts (finite.retain_keys m stays)
  owed-kept stays q v there = owed q v (kept-there (stays q) (finite.get m q) v (sym (get_kept m stays q) ∙ there)).1

  -- where the processes that run go on
  pub owed-on : (us : List Thread) → ((q : ℕ) → Runs ts q → Runs us q) → AreOwed us m
  owed-on us still q v there = still q.client (owed q v there)

  -- where all but this one do
  pub owed-without : (us : List Thread) (process : ℕ) → ((q : ℕ) → Runs ts q → q ≢ process → Runs us q) → AreOwed us (without_client m process)
  owed-without us process still q v there =
      let parts = kept-there (not (q.client == process)) (finite.get m q) v (sym (get_kept m (λ k. not (k.client == process)) q) ∙ there) in
      still q.client (owed q v parts.1) (λ same. true≢false (sym parts.0 ∙ ap not (eq-eqb q.client process same)))
