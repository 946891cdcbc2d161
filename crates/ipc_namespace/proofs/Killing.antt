-- The threads of a process end, and with them their waiting calls.
use Rattle.std.proofs.Common.{◌≡◌, ◌∙◌, ℕ, zero, suc, Bool, true, false, cond, eqb, get_or, set, List, [], ◌∷◌, ◌++◌, map, refl, sym, subst, ap, ⊎_elim, Option, Some, None}
use Rattle.std.specs.Prelude.{◌==◌, ◌&&◌, ◌||◌, not, is_none, if◌then◌else◌}
use Rattle.std.specs.List.{AllByRecursion, list_any}
use Rattle.std.proofs.lemmas.Bool.{cases_eq, eq-eqb, ne_eqb, true≢false}
use Rattle.std.proofs.lemmas.List.{get_or-set_other}
use Rattle.std.proofs.lemmas.Option.{none-some}
use Rattle.ipc_call.specs.declared.replies.Completion.{Completion}
use Rattle.ipc_call.specs.declared.replies.Waiting.{Waiting}
use Rattle.ipc_call.specs.declared.rules.Rule.{Rule}
use Rattle.ipc_call.specs.declared.rules.Rule.TheVariants.{Ended}
use Rattle.ipc_model.specs.State.{State, Thread, no_thread, runs}
use Rattle.ipc_model.specs.Processes.{ends}
use Rattle.ipc_model.specs.Step.{ended_by_rule}
use Rattle.ipc_namespace.specs.Namespace.{ended_as, kept_by}

abbrev pub ended-when : Bool → Option Rule
ended-when b = if b then Some Ended else None

-- a thread of another process stays as it is
pub ends-other : (ts : List Thread) (process c : ℕ) → ((get_or ts c no_thread).process ≡ process → ⊥) → get_or (map (ends process) ts) c no_thread ≡ get_or ts c no_thread
ends-other [] process c other = refl
ends-other (t ∷ ts) process zero other = ap (λ b. cond b (record t { has_ended = true }) t) (ne_eqb t.process process other)
ends-other (t ∷ ts) process (suc c) other = ends-other ts process c other

-- and one that lives has ended where it is one of the process
pub ends-own : (ts : List Thread) (process c : ℕ) → (get_or ts c no_thread).has_ended ≡ false → (get_or (map (ends process) ts) c no_thread).has_ended ≡ (process == (get_or ts c no_thread).process)
ends-own [] process c alive = absurd (true≢false alive)
ends-own (t ∷ ts) process (suc c) alive = ends-own ts process c alive
ends-own (t ∷ ts) process zero alive = ⊎_elim
    (λ (same : t.process ≡ process). ap (λ b. (cond b (record t { has_ended = true }) t).has_ended) (eq-eqb t.process process same) ∙ sym (eq-eqb process t.process (sym same)))
    (λ (other : t.process ≡ process → ⊥). ap (λ b. (cond b (record t { has_ended = true }) t).has_ended) (ne_eqb t.process process other) ∙ alive ∙ sym (ne_eqb process t.process (λ e. other (sym e))))
    (cases_eq t.process process)

-- whether it ends or not, a thread keeps its process and its pid
pub ends-numbers : (process : ℕ) (ts : List Thread) (c : ℕ) → ((get_or (map (ends process) ts) c no_thread).process ≡ (get_or ts c no_thread).process)
    × ((get_or (map (ends process) ts) c no_thread).pid ≡ (get_or ts c no_thread).pid)
ends-numbers process [] c = (refl, refl)
ends-numbers process (t ∷ ts) (suc c) = ends-numbers process ts c
ends-numbers process (t ∷ ts) zero = by (t.process == process)
  where
    by : (b : Bool) → ((cond b (record t { has_ended = true }) t).process ≡ t.process) × ((cond b (record t { has_ended = true }) t).pid ≡ t.pid)
    by true = (refl, refl)
    by false = (refl, refl)

-- rules that are the same for each call of a list leave and end the same
pub rules-alike : (f g : Waiting → Option Rule) (ws : List Waiting) → AllByRecursion (λ w. f w ≡ g w) ws → (kept_by f ws ≡ kept_by g ws) × (ended_as f ws ≡ ended_as g ws)
rules-alike f g [] same = (refl, refl)
rules-alike f g (w ∷ ws) same =
    let rest = rules-alike f g ws same.1 in (
      (λ i. cond (is_none (same.0 i)) (w ∷ rest.0 i) (rest.0 i)),
      (λ i. ended_by_rule w.client (same.0 i) ++ rest.1 i),
    )

-- those that are left are of other processes
pub kept-others : (ts : List Thread) (process : ℕ) (ws : List Waiting) → AllByRecursion (λ w. (get_or ts w.client no_thread).process ≡ process → ⊥) (kept_by (λ w. ended-when (process == (get_or ts w.client no_thread).process)) ws)
kept-others ts process [] = tt
kept-others ts process (w ∷ ws) = by (kept-others ts process ws) (process == (get_or ts w.client no_thread).process) refl
  where
    rest : List Waiting
    rest = kept_by (λ v. ended-when (process == (get_or ts v.client no_thread).process)) ws

    by : AllByRecursion (λ v. (get_or ts v.client no_thread).process ≡ process → ⊥) rest → (b : Bool) → (process == (get_or ts w.client no_thread).process) ≡ b → AllByRecursion (λ v. (get_or ts v.client no_thread).process ≡ process → ⊥) (cond (is_none (ended-when b)) (w ∷ rest) rest)
    by others true is = others
    by others false is = (λ e. true≢false (sym (eq-eqb process (get_or ts w.client no_thread).process (sym e)) ∙ is), others)

-- kill: a call ends where its client has ended
pub kill-rules : (ts : List Thread) (process : ℕ) (ws : List Waiting) → AllByRecursion (λ w. (get_or ts w.client no_thread).has_ended ≡ false) ws
    → AllByRecursion (λ w. ended-when (process == (get_or ts w.client no_thread).process) ≡ ended-when (get_or (map (ends process) ts) w.client no_thread).has_ended) ws
kill-rules ts process [] alive = tt
kill-rules ts process (w ∷ ws) alive = (ap ended-when (sym (ends-own ts process w.client alive.0)), kill-rules ts process ws alive.1)

-- a thread of the process has ended, whether it lived or not
ends-gone : (ts : List Thread) (process c : ℕ) → (get_or ts c no_thread).process ≡ process → (get_or (map (ends process) ts) c no_thread).has_ended ≡ true
ends-gone [] process c same = refl
ends-gone (t ∷ ts) process zero same = ap (λ b. (cond b (record t { has_ended = true }) t).has_ended) (eq-eqb t.process process same)
ends-gone (t ∷ ts) process (suc c) same = ends-gone ts process c same

-- exec: the caller's thread stays, and no call of it waits; the others that are kept live
pub exec-rules : (ts : List Thread) (process client : ℕ) (thread : Thread) (ws : List Waiting) → AllByRecursion (λ w. w.client ≡ client → ⊥) ws
    → AllByRecursion (λ w. (get_or ts w.client no_thread).has_ended ≡ false) (kept_by (λ w. ended-when (process == (get_or ts w.client no_thread).process)) ws)
    → AllByRecursion (λ w. ended-when (process == (get_or ts w.client no_thread).process) ≡ ended-when (get_or (set (map (ends process) ts) client thread) w.client no_thread).has_ended) ws
exec-rules ts process client thread [] apart alive = tt
exec-rules ts process client thread (w ∷ ws) apart alive =
    let rest = kept_by (λ v. ended-when (process == (get_or ts v.client no_thread).process)) ws in
    let stays = get_or-set_other (map (ends process) ts) client w.client thread no_thread apart.0 in
    ⊎_elim
    (λ (same : process ≡ (get_or ts w.client no_thread).process).
    let is = eq-eqb process (get_or ts w.client no_thread).process same in (
      ap ended-when (is ∙ sym (ap (λ (t : Thread). t.has_ended) stays ∙ ends-gone ts process w.client (sym same))),
      exec-rules ts process client thread ws apart.1
          (subst (λ b. AllByRecursion (λ v. (get_or ts v.client no_thread).has_ended ≡ false) (cond (is_none (ended-when b)) (w ∷ rest) rest)) is alive),
    ))
    (λ (other : process ≡ (get_or ts w.client no_thread).process → ⊥).
    let isnt = ne_eqb process (get_or ts w.client no_thread).process other in
    let both = subst (λ b. AllByRecursion (λ v. (get_or ts v.client no_thread).has_ended ≡ false) (cond (is_none (ended-when b)) (w ∷ rest) rest)) isnt alive in (
      ap ended-when (isnt ∙ sym (ap (λ (t : Thread). t.has_ended) (stays ∙ ends-other ts process w.client (λ e. other (sym e))) ∙ both.0)),
      exec-rules ts process client thread ws apart.1 both.1,
    ))
    (cases_eq process (get_or ts w.client no_thread).process)

-- and none of it runs
pub none-running : (ts : List Thread) (process : ℕ) → list_any (runs process) (map (ends process) ts) ≡ false
none-running [] process = refl
none-running (t ∷ ts) process = by (t.process == process) refl (none-running ts process)
  where
    after : Bool → Thread
    after b = cond b (record t { has_ended = true }) t

    none : (b : Bool) → (b && false) || false ≡ false
    none true = refl
    none false = refl

    by : (b : Bool) → (t.process == process) ≡ b → list_any (runs process) (map (ends process) ts) ≡ false → runs process (after b) || list_any (runs process) (map (ends process) ts) ≡ false
    by true is rest = (λ i. ((t.process == process) && false) || rest i) ∙ none (t.process == process)
    by false is rest = (λ i. (is i && not t.has_ended) || rest i)
