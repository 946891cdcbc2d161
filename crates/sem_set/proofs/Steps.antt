-- One step of a trial.
use Rattle.std.proofs.Common.{ℕ, ◌+◌, ◌<◌, ◌≡◌, ◌∙◌, ap, sym, ℤ, List, [], ◌∷◌, ◌++◌, length, take, drop, get_or, set, ⊎_elim}
use Rattle.std.specs.Prelude.{unwrap_or, Option}
use Rattle.std.proofs.lemmas.List.{get_or-set_same, get_or-set_other}
use Rattle.std.proofs.lemmas.Bool.{cases_eq}
use Rattle.std.proofs.lemmas.List.{take_more, drop_more}
use Rattle.ipc_call.specs.declared.calls.SemOper.{SemOper}
use Rattle.sem_set.specs.declared.set.Semaphore.{Semaphore}
use Rattle.sem_set.specs.declared.trials.Met.{Met}
use Rattle.sem_set.specs.declared.trials.Trial.{Trial}
use Rattle.sem_set.specs.Trials.{stopped_at, stopped_by, trial_from}
use Rattle.sem_set.specs.Met.{met_after, met_at}
use Rattle.sem_set.proofs.Running.{met_elsewhere, met_here, no_met, no_oper}

-- what the operation at a place tells decides, and where it tells nothing the rest does
pub trial_step : (sems : List Semaphore) (adj : ℕ → ℤ) (ops : List SemOper) (i : ℕ) (m : Met) (told : Option Trial) → i < length ops → m ≡ met_at sems adj (take i ops) (get_or ops i no_oper).num → stopped_by i m.value m.adj (get_or ops i no_oper) ≡ told → trial_from i sems adj (take i ops) (drop i ops) ≡ unwrap_or told (trial_from (i + 1) sems adj (take (i + 1) ops) (drop (i + 1) ops))
trial_step sems adj ops i m told h e is =
    ap (λ (os : List SemOper). trial_from i sems adj (take i ops) os) (drop_more ops i no_oper h)
    ∙ ap (λ (earlier : List SemOper). unwrap_or (stopped_at i sems adj (take i ops) (get_or ops i no_oper)) (trial_from (i + 1) sems adj earlier (drop (i + 1) ops))) (sym (take_more ops i no_oper h))
    ∙ ap (λ (o : Option Trial). unwrap_or o (trial_from (i + 1) sems adj (take (i + 1) ops) (drop (i + 1) ops))) (ap (λ (n : Met). stopped_by i n.value n.adj (get_or ops i no_oper)) (sym e) ∙ is)

-- what the next operation on each semaphore meets
abbrev pub AreMet : List Semaphore → (ℕ → ℤ) → List SemOper → ℕ → List Met → Type 0
AreMet sems adj ops i met =
    (k : ℕ) → k < length ops → get_or met (get_or ops k no_oper).num no_met ≡ met_at sems adj (take i ops) (get_or ops k no_oper).num

-- it is kept by writing what is met after an operation
pub met_step : (sems : List Semaphore) (adj : ℕ → ℤ) (ops : List SemOper) (i : ℕ) (met : List Met) (num : ℕ) (m : Met) → i < length ops → num ≡ (get_or ops i no_oper).num → num < length met → m ≡ met_after (get_or met num no_met) (get_or ops i no_oper) → AreMet sems adj ops i met → AreMet sems adj ops (i + 1) (set met num m)
met_step sems adj ops i met num m h e within is before k l =
    let o : SemOper = get_or ops i no_oper in
    let n : ℕ = (get_or ops k no_oper).num in
    let more : met_at sems adj (take i ops ++ o ∷ []) n ≡ met_at sems adj (take (i + 1) ops) n = ap (λ (os : List SemOper). met_at sems adj os n) (sym (take_more ops i no_oper h)) in
    ⊎_elim
    (λ (same : o.num ≡ n).
    ap (λ (x : ℕ). get_or (set met num m) x no_met) (sym (e ∙ same))
    ∙ get_or-set_same met num m no_met within
    ∙ is
    ∙ ap (λ (x : Met). met_after x o) (ap (λ (x : ℕ). get_or met x no_met) (e ∙ same) ∙ before k l)
    ∙ sym (met_here sems adj (take i ops) o n same)
    ∙ more)
    (λ (other : o.num ≡ n → ⊥).
    get_or-set_other met num n m no_met (λ (q : n ≡ num). other (sym (q ∙ e)))
    ∙ before k l
    ∙ sym (met_elsewhere sems adj (take i ops) o n other)
    ∙ more)
    (cases_eq o.num n)
