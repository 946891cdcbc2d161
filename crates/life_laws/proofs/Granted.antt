-- What a granted call makes of the clients: a line for each call of the life of processes.
use Rattle.std.proofs.Common.{◌≡◌, ℕ, Bool, true, false, cond, List, [], ◌∷◌, refl, sym, ap, ◌∙◌, Option}
use Rattle.std.specs.Prelude.{is_some, if◌then◌else◌}
use Rattle.std.specs.List.{find}
use Rattle.ipc_call.specs.declared.calls.Call.{Call}
use Rattle.ipc_call.specs.declared.calls.Call.TheVariants.{SetCreds, Assume, Begin, Fork, Clone, Name, Exec, Exit, Kill}
use Rattle.ipc_call.specs.declared.calls.Identity.{Identity}
use Rattle.ipc_call.specs.declared.replies.Answer.{Answer}
use Rattle.ipc_call.specs.declared.replies.Answer.TheVariants.{Done}
use Rattle.ipc_call.specs.declared.rules.Rule.TheVariants.{ClientInUse, NoProcess}
use Rattle.ipc_perm.specs.Access.{SetGroups}
use Rattle.ipc_model.specs.State.{State, caller, creds_at, has_pid, is_running, process_at}
use Rattle.ipc_model.specs.Decision.{Decision, Granted, Refused, Waits}
use Rattle.ipc_model.specs.Decide.{decide, part_plan, plan}
use Rattle.ipc_model.specs.Plan.{Needs}
use Rattle.ipc_model.specs.Processes.{ended, free_client, process_ended, to_signal}
use Rattle.ipc_model.proofs.Beside.{KeepsClients, clients-kept}
use Rattle.ipc_model.proofs.Plans.{Ends, Ends-decision, Ends-found, Ends-order, IfGranted}
use Rattle.life_laws.specs.Lives.{clients_after, threads_after, without_process}

-- what is granted to a client leaves these threads and credentials
abbrev pub Lived : State → ℕ → Call → Answer → State → Type 0
Lived s client call answer new = (new.threads ≡ threads_after s.next s.threads client call) × (new.clients ≡ clients_after s.clients client call)

module _ (s : State) (client : ℕ) where
  lived-exit : (running : Bool) → Lived s client Exit Done (cond running (ended s client) (process_ended (ended s client) (caller s client)))
  lived-exit true = (refl, refl)
  lived-exit false = (refl, refl)

  ends-exit : Ends (Lived s client Exit) (plan s client Exit)
  unfolding part_plan
  ends-exit = lived-exit (is_running (ended s client) (process_at s client))

  ends-setcreds : (euid egid : ℕ) (groups : Option (List ℕ)) → Ends (Lived s client (SetCreds euid egid groups)) (plan s client (SetCreds euid egid groups))
  unfolding part_plan
  ends-setcreds euid egid groups = Ends-order (Lived s client (SetCreds euid egid groups)) (if is_some groups then Needs SetGroups ∷ [] else []) _ (refl, refl)

  ends-assume : (creds : Identity) → Ends (Lived s client (Assume creds)) (plan s client (Assume creds))
  unfolding part_plan
  ends-assume creds = (refl, refl)

  ends-begin : (p : ℕ) (creds : Identity) → Ends (Lived s client (Begin p creds)) (plan s client (Begin p creds))
  unfolding part_plan
  ends-begin p creds = Ends-found (Lived s client (Begin p creds)) (free_client s client) ClientInUse tt _ (λ t is. (refl, refl))

  ends-fork : (child p : ℕ) → Ends (Lived s client (Fork child p)) (plan s client (Fork child p))
  unfolding part_plan
  ends-fork child p = Ends-found (Lived s client (Fork child p)) (free_client s child) ClientInUse tt _ (λ t is. (refl, refl))

  ends-clone : (child : ℕ) → Ends (Lived s client (Clone child)) (plan s client (Clone child))
  unfolding part_plan
  ends-clone child = Ends-found (Lived s client (Clone child)) (free_client s child) ClientInUse tt _ (λ t is. (refl, refl))

  ends-name : (p : ℕ) → Ends (Lived s client (Name p)) (plan s client (Name p))
  unfolding part_plan
  ends-name p = (refl, refl)

  ends-exec : Ends (Lived s client Exec) (plan s client Exec)
  unfolding part_plan
  ends-exec = (refl, refl)

  ends-kill : (p : ℕ) → Ends (Lived s client (Kill p)) (plan s client (Kill p))
  unfolding part_plan
  ends-kill p = Ends-found (Lived s client (Kill p)) (find (has_pid p) s.threads) NoProcess tt _ (λ t is.
      Ends-order (Lived s client (Kill p)) (to_signal s (caller s client) p) _ (ap (λ o. without_process o s.threads) (sym is), refl))

by-kept : (s : State) (client : ℕ) (call : Call) (d : Decision State) → threads_after s.next s.threads client call ≡ s.threads → clients_after s.clients client call ≡ s.clients
    → IfGranted (KeepsClients s) d → IfGranted (Lived s client call) d
by-kept s client call (Refused rule) threads clients kept = tt
by-kept s client call Waits threads clients kept = tt
by-kept s client call (Granted answer new) threads clients kept = (kept.1 ∙ sym threads, kept.0 ∙ sym clients)

pub lived : (s : State) (client : ℕ) (call : Call) → IfGranted (Lived s client call) (decide s client call)
lived s client (SetCreds euid egid groups) = Ends-decision (creds_at s client) _ (plan s client (SetCreds euid egid groups)) (ends-setcreds s client euid egid groups)
lived s client (Assume creds) = Ends-decision (creds_at s client) _ (plan s client (Assume creds)) (ends-assume s client creds)
lived s client (Begin p creds) = Ends-decision (creds_at s client) _ (plan s client (Begin p creds)) (ends-begin s client p creds)
lived s client (Fork child p) = Ends-decision (creds_at s client) _ (plan s client (Fork child p)) (ends-fork s client child p)
lived s client (Clone child) = Ends-decision (creds_at s client) _ (plan s client (Clone child)) (ends-clone s client child)
lived s client (Name p) = Ends-decision (creds_at s client) _ (plan s client (Name p)) (ends-name s client p)
lived s client Exec = Ends-decision (creds_at s client) _ (plan s client Exec) (ends-exec s client)
lived s client Exit = Ends-decision (creds_at s client) _ (plan s client Exit) (ends-exit s client)
lived s client (Kill p) = Ends-decision (creds_at s client) _ (plan s client (Kill p)) (ends-kill s client p)
lived s client call = by-kept s client call (decide s client call) refl refl (clients-kept s client call refl)
