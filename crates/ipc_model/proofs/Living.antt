-- Those whose calls wait live on after a grant that doesn't end their calls.
use Rattle.std.proofs.Common.{◌≡◌, ◌≢◌, ℕ, zero, suc, Bool, true, false, cond, eqb, get_or, set, List, [], ◌∷◌, refl, sym, ap, subst, ◌∙◌, Option, Some, None}
use Rattle.std.specs.Prelude.{◌==◌, filter, is_none, is_some, map, slice_index_or, if◌then◌else◌}
use Rattle.std.specs.List.{AllByRecursion, find}
use Rattle.std.proofs.lemmas.Bool.{true≢false}
use Rattle.std.proofs.lemmas.List.{get_or-set_other}
use Rattle.std.proofs.lemmas.Option.{none-some}
use Rattle.ipc_call.specs.declared.calls.Call.{Call}
use Rattle.ipc_call.specs.declared.calls.Call.TheVariants.{SetCreds, Assume, Begin, Fork, Clone, Name, Exec, Exit, Kill}
use Rattle.ipc_call.specs.declared.calls.Identity.{Identity}
use Rattle.ipc_call.specs.declared.replies.Answer.{Answer}
use Rattle.ipc_call.specs.declared.replies.Answer.TheVariants.{Done}
use Rattle.ipc_call.specs.declared.replies.Waiting.{Waiting}
use Rattle.ipc_call.specs.declared.rules.Rule.{Rule}
use Rattle.ipc_call.specs.declared.rules.Rule.TheVariants.{ClientInUse, Ended, NoProcess}
use Rattle.ipc_perm.specs.Access.{SetGroups}
use Rattle.ipc_model.specs.State.{State, Thread, caller, creds_at, has_exited, has_pid, is_running, no_thread, process_at, runs, thread_at}
use Rattle.ipc_model.specs.Decision.{Decision, Granted, Refused, Waits}
use Rattle.ipc_model.specs.Decide.{decide, part_plan, plan}
use Rattle.ipc_model.specs.Plan.{Needs}
use Rattle.ipc_model.specs.Cancelled.{cancelled}
use Rattle.ipc_model.specs.Processes.{ended, free_client, process_ended, renamed, to_signal}
use Rattle.ipc_model.specs.Step.{is_ready}
use Rattle.ipc_model.proofs.Beside.{KeepsClients, clients-kept}
use Rattle.ipc_model.proofs.Plans.{Ends, Ends-decision, Ends-found, Ends-order, IfGranted}
use Rattle.ipc_model.proofs.Staying.{free-ended}
use Rattle.ipc_model.proofs.Turning.{living-waits}

-- of each other client that lives, and whose call isn't cancelled
abbrev pub LivesOn : State → ℕ → Call → Answer → State → Type 0
LivesOn s client call answer new = (w : Waiting) → w.client ≢ client → has_exited s w.client ≡ false → cancelled new call w ≡ None → has_exited new w.client ≡ false

abbrev ended-of : Thread → Bool
ended-of t = t.has_ended

none-ended : (b : Bool) → (if b then Some Ended else None) ≡ None → b ≡ false
none-ended true is = absurd (none-some Ended (sym is))
none-ended false is = refl

pub renamed-ended : (ts : List Thread) (process p c : ℕ) → (get_or (map (renamed process p) ts) c no_thread).has_ended ≡ (get_or ts c no_thread).has_ended
renamed-ended [] process p c = refl
renamed-ended (t ∷ ts) process p (suc c) = renamed-ended ts process p c
renamed-ended (t ∷ ts) process p zero = by (runs process t)
  where
    by : (b : Bool) → (cond b (record t { pid = p }) t).has_ended ≡ t.has_ended
    by true = refl
    by false = refl

module _ (s : State) (client : ℕ) where
  lives-exit : (running : Bool) → LivesOn s client Exit Done (cond running (ended s client) (process_ended (ended s client) (caller s client)))
  lives-exit true w ne lives none = ap ended-of (get_or-set_other s.threads client w.client (record (thread_at s client) { has_ended = true }) no_thread ne) ∙ lives
  lives-exit false w ne lives none = ap ended-of (get_or-set_other s.threads client w.client (record (thread_at s client) { has_ended = true }) no_thread ne) ∙ lives

  -- a client that lives isn't one that has ended
  not-free : (child : ℕ) (t : Thread) → free_client s child ≡ Some t → (c : ℕ) → has_exited s c ≡ false → c ≢ child
  not-free child t is c lives e = true≢false (sym (free-ended s child t is) ∙ sym (ap (λ (n : ℕ). has_exited s n) e) ∙ lives)

  lives-begun : (child : ℕ) (thread : Thread) (w : Waiting) → w.client ≢ child → has_exited s w.client ≡ false → (get_or (set s.threads child thread) w.client no_thread).has_ended ≡ false
  lives-begun child thread w ne lives = ap ended-of (get_or-set_other s.threads child w.client thread no_thread ne) ∙ lives

  ends-exit : Ends (LivesOn s client Exit) (plan s client Exit)
  unfolding part_plan
  ends-exit = lives-exit (is_running (ended s client) (process_at s client))

  ends-setcreds : (euid egid : ℕ) (groups : Option (List ℕ)) → Ends (LivesOn s client (SetCreds euid egid groups)) (plan s client (SetCreds euid egid groups))
  unfolding part_plan
  ends-setcreds euid egid groups = Ends-order (LivesOn s client (SetCreds euid egid groups)) (if is_some groups then Needs SetGroups ∷ [] else []) _ (λ w ne lives none. lives)

  ends-assume : (creds : Identity) → Ends (LivesOn s client (Assume creds)) (plan s client (Assume creds))
  unfolding part_plan
  ends-assume creds = λ w ne lives none. lives

  ends-begin : (p : ℕ) (creds : Identity) → Ends (LivesOn s client (Begin p creds)) (plan s client (Begin p creds))
  unfolding part_plan
  ends-begin p creds = Ends-found (LivesOn s client (Begin p creds)) (free_client s client) ClientInUse tt _ (λ t is w ne lives none.
      lives-begun client (record { process = s.next; pid = p; has_ended = false }) w ne lives)

  ends-fork : (child p : ℕ) → Ends (LivesOn s client (Fork child p)) (plan s client (Fork child p))
  unfolding part_plan
  ends-fork child p = Ends-found (LivesOn s client (Fork child p)) (free_client s child) ClientInUse tt _ (λ t is w ne lives none.
      lives-begun child (record { process = s.next; pid = p; has_ended = false }) w (not-free child t is w.client lives) lives)

  ends-clone : (child : ℕ) → Ends (LivesOn s client (Clone child)) (plan s client (Clone child))
  unfolding part_plan
  ends-clone child = Ends-found (LivesOn s client (Clone child)) (free_client s child) ClientInUse tt _ (λ t is w ne lives none.
      lives-begun child (record { process = process_at s client; pid = (thread_at s client).pid; has_ended = false }) w (not-free child t is w.client lives) lives)

  ends-name : (p : ℕ) → Ends (LivesOn s client (Name p)) (plan s client (Name p))
  unfolding part_plan
  ends-name p = λ w ne lives none. renamed-ended s.threads (process_at s client) p w.client ∙ lives

  ends-exec : Ends (LivesOn s client Exec) (plan s client Exec)
  unfolding part_plan
  ends-exec = λ w ne lives none. none-ended _ none

  ends-kill : (p : ℕ) → Ends (LivesOn s client (Kill p)) (plan s client (Kill p))
  unfolding part_plan
  ends-kill p = Ends-found (LivesOn s client (Kill p)) (find (has_pid p) s.threads) NoProcess tt _ (λ t is.
      Ends-order (LivesOn s client (Kill p)) (to_signal s (caller s client) p) _ (λ w ne lives none. none-ended _ none))

by-kept : (s : State) (client : ℕ) (call : Call) (d : Decision State) → IfGranted (KeepsClients s) d → IfGranted (LivesOn s client call) d
by-kept s client call (Refused rule) kept = tt
by-kept s client call Waits kept = tt
by-kept s client call (Granted answer new) kept = λ w ne lives none. ap (λ (ts : List Thread). (slice_index_or ts w.client no_thread).has_ended) kept.1 ∙ lives

pub lives-on : (s : State) (client : ℕ) (call : Call) → IfGranted (LivesOn s client call) (decide s client call)
lives-on s client (SetCreds euid egid groups) = Ends-decision (creds_at s client) _ (plan s client (SetCreds euid egid groups)) (ends-setcreds s client euid egid groups)
lives-on s client (Assume creds) = Ends-decision (creds_at s client) _ (plan s client (Assume creds)) (ends-assume s client creds)
lives-on s client (Begin p creds) = Ends-decision (creds_at s client) _ (plan s client (Begin p creds)) (ends-begin s client p creds)
lives-on s client (Fork child p) = Ends-decision (creds_at s client) _ (plan s client (Fork child p)) (ends-fork s client child p)
lives-on s client (Clone child) = Ends-decision (creds_at s client) _ (plan s client (Clone child)) (ends-clone s client child)
lives-on s client (Name p) = Ends-decision (creds_at s client) _ (plan s client (Name p)) (ends-name s client p)
lives-on s client Exec = Ends-decision (creds_at s client) _ (plan s client Exec) (ends-exec s client)
lives-on s client Exit = Ends-decision (creds_at s client) _ (plan s client Exit) (ends-exit s client)
lives-on s client (Kill p) = Ends-decision (creds_at s client) _ (plan s client (Kill p)) (ends-kill s client p)
lives-on s client call = by-kept s client call (decide s client call) (clients-kept s client call refl)

-- so of the calls that are left each is of one that lives
pub living-kept : (s new : State) (client : ℕ) (call : Call) (answer : Answer) → decide s client call ≡ Granted answer new → (ws : List Waiting) → AllByRecursion (λ w. is_ready s w ≡ false) ws → AllByRecursion (λ w. w.client ≢ client) ws
    → AllByRecursion (λ w. (w.client ≢ client) × (has_exited new w.client ≡ false)) (filter (λ w. is_none (cancelled new call w)) ws)
living-kept s new client call answer is [] waits others = tt
living-kept s new client call answer is (w ∷ ws) waits others = by (living-kept s new client call answer is ws waits.1 others.1) (cancelled new call w) refl
  where
    kept : LivesOn s client call answer new
    kept = subst (λ (d : Decision State). IfGranted (LivesOn s client call) d) is (lives-on s client call)

    left : List Waiting
    left = filter (λ v. is_none (cancelled new call v)) ws

    by : AllByRecursion (λ v. (v.client ≢ client) × (has_exited new v.client ≡ false)) left → (o : Option Rule) → cancelled new call w ≡ o → AllByRecursion (λ v. (v.client ≢ client) × (has_exited new v.client ≡ false)) (cond (is_none o) (w ∷ left) left)
    by rest None none = ((others.0, kept w others.0 (living-waits s w.client w.call waits.0) none), rest)
    by rest (Some rule) is = rest
