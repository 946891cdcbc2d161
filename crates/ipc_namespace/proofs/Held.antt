-- What waiting calls have reserved of the sets, and that their clients haven't ended.
use Rattle.std.proofs.Common.{◌≡◌, ℕ, ◌<◌, Bool, true, false, cond, get_or, set, List, [], ◌∷◌, ◌++◌, map, refl, sym, ap, subst, ◌∙◌, Option, Some, None}
use Rattle.std.specs.Prelude.{◌==◌, filter, is_none, is_some, if◌then◌else◌}
use Rattle.std.specs.List.{find, list_any, AllByRecursion}
use Rattle.std.proofs.lemmas.Bool.{eqb-false, or_parts, true≢false}
use Rattle.std.proofs.lemmas.List.{get_or-set_other}
use Rattle.ipc_call.specs.declared.calls.Call.{Call}
use Rattle.ipc_call.specs.declared.calls.Call.TheVariants.{SemOp}
use Rattle.ipc_call.specs.declared.calls.Kind.TheVariants as kinds
use Rattle.ipc_call.specs.declared.calls.SemOper.{SemOper}
use Rattle.ipc_call.specs.declared.replies.Waiting.{Waiting}
use Rattle.ipc_call.specs.declared.rules.Rule.TheVariants.{Removed}
use Rattle.ipc_model.specs.Cancelled.{waits_on}
use Rattle.ipc_model.specs.State.{State, Thread, has_exited, no_thread, runs}
use Rattle.ipc_model.specs.Processes.{ends, free_client, renamed}
use Rattle.ipc_model.proofs.Living.{renamed-ended}
use Rattle.ipc_model.proofs.Staying.{free-ended}
use Rattle.ipc_model.proofs.Apart.{none-runs, renamed-process}
use Rattle.ipc_namespace.proofs.Killing.{ends-other}
use Rattle.sem_calls.specs.WithRows.{SetsWithRows, HasRow, row_at}
use Rattle.ipc_namespace.specs.Namespace.{AreHeld, HasRowFor, kept_by}
use Rattle.ipc_namespace.proofs.Parked.{all-filter, all-found, all-push}

-- what is true of a waiting call
abbrev pub IsHeld : SetsWithRows → List Thread → Waiting → Type 0
IsHeld sets threads w = ((get_or threads w.client no_thread).has_ended ≡ false) × HasRowFor sets (get_or threads w.client no_thread).process w.call

abbrev pub Longer : SetsWithRows → SetsWithRows → Type 0
Longer old new = (c s n : ℕ) → n < row_at old c s → n < row_at new c s

row-longer : (old new : SetsWithRows) (client id : ℕ) → ((n : ℕ) → n < row_at old client id → n < row_at new client id) → (ops : List SemOper) → HasRow old client id ops → HasRow new client id ops
row-longer old new client id longer [] has = tt
row-longer old new client id longer (o ∷ os) has = (λ undoes. longer o.num (has.0 undoes), row-longer old new client id longer os has.1)

row-for-longer : (old new : SetsWithRows) → Longer old new → (client : ℕ) (call : Call) → HasRowFor old client call → HasRowFor new client call
row-for-longer old new longer client (SemOp id ops) has = row-longer old new client id (longer client id) ops has
row-for-longer old new longer client call has = tt

pub none_held : (sets : SetsWithRows) (threads : List Thread) (ws : List Waiting) → ws ≡ [] → AreHeld sets threads ws
unfolding AreHeld
none_held sets threads [] none = tt
none_held sets threads (w ∷ ws) none = cc

-- rows only grow
pub held-longer : (old new : SetsWithRows) (threads : List Thread) → Longer old new → (ws : List Waiting) → AreHeld old threads ws → AreHeld new threads ws
unfolding AreHeld
held-longer old new threads longer [] held = tt
held-longer old new threads longer (w ∷ ws) held = ((held.0.0, row-for-longer old new longer (get_or threads w.client no_thread).process w.call held.0.1), held-longer old new threads longer ws held.1)

-- or stay
pub held-same : (old new : SetsWithRows) (threads : List Thread) → ((c s : ℕ) → row_at new c s ≡ row_at old c s) → (ws : List Waiting) → AreHeld old threads ws → AreHeld new threads ws
held-same old new threads same ws held = held-longer old new threads (λ c s n below. subst (λ k. n < k) (sym (same c s)) below) ws held

pub held-filter : (sets : SetsWithRows) (threads : List Thread) (test : Waiting → Bool) (ws : List Waiting) → AreHeld sets threads ws → AreHeld sets threads (filter test ws)
unfolding AreHeld
held-filter sets threads test ws held = all-filter (IsHeld sets threads) test ws held

pub held-push : (sets : SetsWithRows) (threads : List Thread) (ws : List Waiting) (w : Waiting) → AreHeld sets threads ws → IsHeld sets threads w → AreHeld sets threads (ws ++ w ∷ [])
unfolding AreHeld
held-push sets threads ws w held is = all-push (IsHeld sets threads) ws w held is

pub held-found : (sets : SetsWithRows) (threads : List Thread) (test : Waiting → Bool) (ws : List Waiting) (w : Waiting) → AreHeld sets threads ws → find test ws ≡ Some w → IsHeld sets threads w
unfolding AreHeld
held-found sets threads test ws w held found = all-found (IsHeld sets threads) test ws w held found

-- the rows at a set may go where no call waits at it
module _ (old new : SetsWithRows) (id : ℕ) (same : (c s : ℕ) → (s ≡ id → ⊥) → row_at new c s ≡ row_at old c s) where
  row-for-elsewhere : (client : ℕ) (call : Call) → waits_on kinds.Sems id call ≡ false → HasRowFor old client call → HasRowFor new client call
  row-for-elsewhere client (SemOp other ops) apart has = row-longer old new client other (λ n below. subst (λ k. n < k) (sym (same client other (eqb-false other id apart))) below) ops has
  row-for-elsewhere client call apart has = tt

  pub held-elsewhere : (threads : List Thread) (ws : List Waiting) → AllByRecursion (λ w. waits_on kinds.Sems id w.call ≡ false) ws → AreHeld old threads ws → AreHeld new threads ws
  unfolding AreHeld
  held-elsewhere threads [] apart held = tt
  held-elsewhere threads (w ∷ ws) apart held = ((held.0.0, row-for-elsewhere (get_or threads w.client no_thread).process w.call apart.0 held.0.1), held-elsewhere threads ws apart.1 held.1)

kept-elsewhere : (id : ℕ) (b : Bool) (w : Waiting) (ws : List Waiting) → waits_on kinds.Sems id w.call ≡ b → AllByRecursion (λ v. waits_on kinds.Sems id v.call ≡ false) ws
    → AllByRecursion (λ v. waits_on kinds.Sems id v.call ≡ false) (cond (is_none (if b then Some Removed else None)) (w ∷ ws) ws)
kept-elsewhere id true w ws waits apart = apart
kept-elsewhere id false w ws waits apart = (waits, apart)

-- where those that wait on a set have left, none waits at it
pub none_there : (id : ℕ) (ws : List Waiting) → AllByRecursion (λ w. waits_on kinds.Sems id w.call ≡ false) (kept_by (λ w. if waits_on kinds.Sems id w.call then Some Removed else None) ws)
none_there id [] = tt
none_there id (w ∷ ws) = kept-elsewhere id (waits_on kinds.Sems id w.call) w (kept_by (λ v. if waits_on kinds.Sems id v.call then Some Removed else None) ws) refl (none_there id ws)

-- another client's thread changes
module _ (sets : SetsWithRows) (threads : List Thread) (client : ℕ) (thread : Thread) where
  held-other : (w : Waiting) → (w.client ≡ client → ⊥) → IsHeld sets threads w → IsHeld sets (set threads client thread) w
  held-other w other held =
      subst (λ (t : Thread). (t.has_ended ≡ false) × HasRowFor sets t.process w.call) (sym (get_or-set_other threads client w.client thread no_thread other)) held

  pub held-thread : (ws : List Waiting) → AllByRecursion (λ w. w.client ≡ client → ⊥) ws → AreHeld sets threads ws → AreHeld sets (set threads client thread) ws
  unfolding AreHeld
  held-thread [] others held = tt
  held-thread (w ∷ ws) others held = (held-other w others.0 held.0, held-thread ws others.1 held.1)

-- the rows of a process without a thread go
module _ (old new : SetsWithRows) (threads : List Thread) (process : ℕ) (none : list_any (runs process) threads ≡ false)
    (stay : (c s : ℕ) → (c ≡ process → ⊥) → row_at new c s ≡ row_at old c s) where
  row-of-other : (c id : ℕ) → (c ≡ process → ⊥) → (ops : List SemOper) → HasRow old c id ops → HasRow new c id ops
  row-of-other c id other [] has = tt
  row-of-other c id other (o ∷ os) has = (λ undoes. subst (λ k. o.num < k) (sym (stay c id other)) (has.0 undoes), row-of-other c id other os has.1)

  row-for-other : (c : ℕ) (call : Call) → (c ≡ process → ⊥) → HasRowFor old c call → HasRowFor new c call
  row-for-other c (SemOp id ops) other has = row-of-other c id other ops has
  row-for-other c call other has = tt

  pub held-gone : (ws : List Waiting) → AreHeld old threads ws → AreHeld new threads ws
  unfolding AreHeld
  held-gone [] held = tt
  held-gone (w ∷ ws) held =
      ((held.0.0, row-for-other (get_or threads w.client no_thread).process w.call (none-runs threads process w.client none held.0.0) held.0.1), held-gone ws held.1)

-- the calls that wait are of others where a client has none
pub free-others : (client : ℕ) (ws : List Waiting) → list_any (λ w. w.client == client) ws ≡ false → AllByRecursion (λ w. w.client ≡ client → ⊥) ws
free-others client [] free = tt
free-others client (w ∷ ws) free =
    let parts = or_parts (w.client == client) (list_any (λ v. v.client == client) ws) free in (eqb-false w.client client parts.0, free-others client ws parts.1)

-- those that wait are of others than a client that has ended
pub held-apart : (sets : SetsWithRows) (threads : List Thread) (client : ℕ) → (get_or threads client no_thread).has_ended ≡ true → (ws : List Waiting) → AreHeld sets threads ws → AllByRecursion (λ w. w.client ≡ client → ⊥) ws
unfolding AreHeld
held-apart sets threads client ended [] held = tt
held-apart sets threads client ended (w ∷ ws) held =
    (λ e. true≢false (sym ended ∙ sym (ap (λ (n : ℕ). (get_or threads n no_thread).has_ended) e) ∙ held.0.0), held-apart sets threads client ended ws held.1)

pub some-ended : (s : State) (client : ℕ) (o : Option Thread) → free_client s client ≡ o → is_some o ≡ true → has_exited s client ≡ true
some-ended s client None is some = absurd (true≢false (sym some))
some-ended s client (Some t) is some = free-ended s client t is

-- and each lives
pub held-alive : (sets : SetsWithRows) (threads : List Thread) (ws : List Waiting) → AreHeld sets threads ws → AllByRecursion (λ w. (get_or threads w.client no_thread).has_ended ≡ false) ws
unfolding AreHeld
held-alive sets threads [] held = tt
held-alive sets threads (w ∷ ws) held = (held.0.0, held-alive sets threads ws held.1)

-- another pid changes nothing for those that wait
pub held-renamed : (sets : SetsWithRows) (threads : List Thread) (process p : ℕ) (ws : List Waiting) → AreHeld sets threads ws → AreHeld sets (map (renamed process p) threads) ws
unfolding AreHeld
held-renamed sets threads process p [] held = tt
held-renamed sets threads process p (w ∷ ws) held =
    ((renamed-ended threads process p w.client ∙ held.0.0, subst (λ (k : ℕ). HasRowFor sets k w.call) (sym (renamed-process threads process p w.client)) held.0.1), held-renamed sets threads process p ws held.1)

-- a process ends of which no call waits
module _ (sets : SetsWithRows) (threads : List Thread) (process : ℕ) where
  pub held-ended : (ws : List Waiting) → AllByRecursion (λ w. (get_or threads w.client no_thread).process ≡ process → ⊥) ws → AreHeld sets threads ws → AreHeld sets (map (ends process) threads) ws
  unfolding AreHeld
  held-ended [] apart held = tt
  held-ended (w ∷ ws) apart held =
      let same = ends-other threads process w.client apart.0 in
      (subst (λ (t : Thread). (t.has_ended ≡ false) × HasRowFor sets t.process w.call) (sym same) held.0, held-ended ws apart.1 held.1)
