-- What a grant leaves as it was beside the objects: the clock, and the clients, with what they are threads of, but for the calls that change these.
use Rattle.std.proofs.Common.{◌≡◌, ℕ, Bool, true, false, cond, List, [], ◌∷◌, refl, sym}
use Rattle.std.specs.Prelude.{◌==◌, slice_get, Option, if◌then◌else◌, is_some}
use Rattle.std.proofs.lemmas.Bool.{true≢false}
use Rattle.ipc_call.specs.declared.calls.Call.{Call}
use Rattle.ipc_call.specs.declared.calls.Call.TheVariants.{IpcStat, IpcSet, IpcRmid, Listing, Interrupt, SetCreds, Assume, Begin, Fork, Clone, Name, Exec, Exit, Kill, InterruptThread}
use Rattle.ipc_call.specs.declared.calls.Identity.{Identity}
use Rattle.ipc_call.specs.declared.calls.Kind.{Kind}
use Rattle.ipc_call.specs.declared.calls.Kind.TheVariants as kinds
use Rattle.ipc_call.specs.declared.settings.Settings.{Settings}
use Rattle.ipc_call.specs.declared.replies.Answer.{Answer}
use Rattle.ipc_call.specs.declared.replies.Answer.TheVariants.{Done}
use Rattle.ipc_call.specs.declared.rules.Rule.TheVariants.{BadId, ClientInUse, NoClient, NoProcess}
use Rattle.ipc_perm.specs.Access.{Resource, SameUser, SetGroups}
use Rattle.std.specs.List.{find}
use Rattle.ipc_model.specs.State.{State, caller, creds_at, has_pid, is_running, pid_at, process_at}
use Rattle.ipc_model.specs.Plan.{Needs, Plan, ◌⨾◌}
use Rattle.ipc_model.specs.Plan as plans
use Rattle.ipc_model.specs.Decision.{Decision, Refused, Waits, Granted}
use Rattle.ipc_model.specs.Controls.{is_within, perm_of, removed, status_of, with_set}
use Rattle.ipc_model.specs.Processes.{ended, free_client, process_ended, to_signal}
use Rattle.ipc_model.specs.Decide.{OnQueues, OnSems, OnShared, OnState, PartPlan, decide, part_plan, plan, whole}
use Rattle.ipc_model.proofs.Plans.{Ends, Ends-decision, Ends-found, Ends-on, Ends-order, IfGranted}

every-end : {X : Type 0} (P : Answer → X → Type 0) → ((answer : Answer) (x : X) → P answer x) → (p : Plan X) → Ends P p
every-end P all (check ⨾ rest) = every-end P all rest
every-end P all (plans.Refuse rule plain) = tt
every-end P all (plans.Grant answer new) = all answer new

granted-so : {X : Type 0} (P Q : Answer → X → Type 0) → ((answer : Answer) (x : X) → P answer x → Q answer x) → (d : Decision X) → IfGranted P d → IfGranted Q d
granted-so P Q so (Refused rule) is = tt
granted-so P Q so Waits is = tt
granted-so P Q so (Granted answer new) is = so answer new is

abbrev pub KeepsClock : State → Answer → State → Type 0
KeepsClock s answer new = new.clock ≡ s.clock

abbrev pub KeepsClients : State → Answer → State → Type 0
KeepsClients s answer new = (new.clients ≡ s.clients) × (new.threads ≡ s.threads)

abbrev KeepsBoth : State → Answer → State → Type 0
KeepsBoth s answer new = KeepsClock s answer new × KeepsClients s answer new

-- a plan of queues, sets or segments alone
abbrev pub is_on_part : PartPlan → Bool
is_on_part (OnQueues p) = true
is_on_part (OnSems p) = true
is_on_part (OnShared p) = true
is_on_part (OnState p) = false

both-part : (s : State) (p : PartPlan) → is_on_part p ≡ true → Ends (KeepsBoth s) (whole s p)
both-part s (OnQueues p) on = Ends-on (λ queues. record s { queues = queues }) (KeepsBoth s) p (every-end _ (λ answer x. (refl, (refl, refl))) p)
both-part s (OnSems p) on = Ends-on (λ sems. record s { sems = sems }) (KeepsBoth s) p (every-end _ (λ answer x. (refl, (refl, refl))) p)
both-part s (OnShared p) on = Ends-on (λ shared. record s { shared = shared }) (KeepsBoth s) p (every-end _ (λ answer x. (refl, (refl, refl))) p)
both-part s (OnState p) on = absurd (true≢false (sym on))

both-removed : (s : State) (kind : Kind) (id : ℕ) → KeepsBoth s Done (removed s kind id)
both-removed s kinds.Queue id = (refl, (refl, refl))
both-removed s kinds.Sems id = (refl, (refl, refl))
both-removed s kinds.Segment id = (refl, (refl, refl))

both-set : (s : State) (kind : Kind) (id : ℕ) (new : Settings) → KeepsBoth s Done (with_set s kind id new)
both-set s kinds.Queue id new = (refl, (refl, refl))
both-set s kinds.Sems id new = (refl, (refl, refl))
both-set s kinds.Segment id new = (refl, (refl, refl))

-- a call that changes what a client is
abbrev pub is_set_creds : Call → Bool
is_set_creds (SetCreds euid egid groups) = true
is_set_creds (Assume creds) = true
is_set_creds (Begin p creds) = true
is_set_creds (Fork child p) = true
is_set_creds (Clone child) = true
is_set_creds (Name p) = true
is_set_creds Exec = true
is_set_creds (Kill p) = true
is_set_creds Exit = true
is_set_creds call = false

both-plan : (s : State) (client : ℕ) (call : Call) → is_set_creds call ≡ false → Ends (KeepsBoth s) (plan s client call)
unfolding part_plan
both-plan s client (SetCreds euid egid groups) other = absurd (true≢false other)
both-plan s client (Assume creds) other = absurd (true≢false other)
both-plan s client (Begin p creds) other = absurd (true≢false other)
both-plan s client (Fork child p) other = absurd (true≢false other)
both-plan s client (Clone child) other = absurd (true≢false other)
both-plan s client (Name p) other = absurd (true≢false other)
both-plan s client Exec other = absurd (true≢false other)
both-plan s client (Kill p) other = absurd (true≢false other)
both-plan s client Exit other = absurd (true≢false other)
both-plan s client (IpcStat kind id) other = Ends-found (KeepsBoth s) (status_of s kind id) BadId tt _ (λ told is. (refl, (refl, refl)))
both-plan s client (IpcSet kind id uid gid mode qbytes) other =
    let new : Settings = record { uid = uid; gid = gid; mode = mode; qbytes = qbytes } in
    Ends-found (KeepsBoth s) (perm_of s kind id) BadId tt _
    (λ perm is. Ends-order (KeepsBoth s) (if is_within s qbytes then [] else Needs Resource ∷ []) _ (both-set s kind id new))
both-plan s client (IpcRmid kind id) other = Ends-found (KeepsBoth s) (perm_of s kind id) BadId tt _ (λ perm is. both-removed s kind id)
both-plan s client (Listing kind) other = (refl, (refl, refl))
both-plan s client (Interrupt p) other = Ends-order (KeepsBoth s) (to_signal s (caller s client) p) _ (refl, (refl, refl))
both-plan s client (InterruptThread target) other = Ends-found (KeepsBoth s) (slice_get s.threads target) NoClient tt _ (λ t is.
    Ends-order (KeepsBoth s) (if t.pid == pid_at s client then [] else Needs (SameUser (creds_at s target).euid) ∷ []) _ (refl, (refl, refl)))
both-plan s client call other = both-part s (part_plan s (caller s client) call) refl

both-kept : (s : State) (client : ℕ) (call : Call) → is_set_creds call ≡ false → IfGranted (KeepsBoth s) (decide s client call)
both-kept s client call other = Ends-decision (creds_at s client) (KeepsBoth s) (plan s client call) (both-plan s client call other)

pub clients-kept : (s : State) (client : ℕ) (call : Call) → is_set_creds call ≡ false → IfGranted (KeepsClients s) (decide s client call)
clients-kept s client call other = granted-so (KeepsBoth s) (KeepsClients s) (λ answer new both. both.1) (decide s client call) (both-kept s client call other)

clock-becoming : (s : State) (client euid egid : ℕ) (groups : Option (List ℕ)) → Ends (KeepsClock s) (plan s client (SetCreds euid egid groups))
unfolding part_plan
clock-becoming s client euid egid groups = Ends-order (KeepsClock s) (if is_some groups then Needs SetGroups ∷ [] else []) _ refl

clock-begins : (s : State) (client p : ℕ) (creds : Identity) → Ends (KeepsClock s) (plan s client (Begin p creds))
unfolding part_plan
clock-begins s client p creds = Ends-found (KeepsClock s) (free_client s client) ClientInUse tt _ (λ t is. refl)

clock-forks : (s : State) (client child p : ℕ) → Ends (KeepsClock s) (plan s client (Fork child p))
unfolding part_plan
clock-forks s client child p = Ends-found (KeepsClock s) (free_client s child) ClientInUse tt _ (λ t is. refl)

clock-clones : (s : State) (client child : ℕ) → Ends (KeepsClock s) (plan s client (Clone child))
unfolding part_plan
clock-clones s client child = Ends-found (KeepsClock s) (free_client s child) ClientInUse tt _ (λ t is. refl)

clock-cond : (s : State) (client : ℕ) (running : Bool) → KeepsClock s Done (cond running (ended s client) (process_ended (ended s client) (caller s client)))
clock-cond s client true = refl
clock-cond s client false = refl

clock-ends : (s : State) (client : ℕ) → Ends (KeepsClock s) (plan s client Exit)
unfolding part_plan
clock-ends s client = clock-cond s client (is_running (ended s client) (process_at s client))

clock-kill : (s : State) (client p : ℕ) → Ends (KeepsClock s) (plan s client (Kill p))
unfolding part_plan
clock-kill s client p = Ends-found (KeepsClock s) (find (has_pid p) s.threads) NoProcess tt _ (λ t is. Ends-order (KeepsClock s) (to_signal s (caller s client) p) _ refl)

clock-name : (s : State) (client p : ℕ) → Ends (KeepsClock s) (plan s client (Name p))
unfolding part_plan
clock-name s client p = refl

clock-assume : (s : State) (client : ℕ) (creds : Identity) → Ends (KeepsClock s) (plan s client (Assume creds))
unfolding part_plan
clock-assume s client creds = refl

clock-exec : (s : State) (client : ℕ) → Ends (KeepsClock s) (plan s client Exec)
unfolding part_plan
clock-exec s client = refl

pub clock-kept : (s : State) (client : ℕ) (call : Call) → IfGranted (KeepsClock s) (decide s client call)
clock-kept s client (SetCreds euid egid groups) = Ends-decision (creds_at s client) (KeepsClock s) (plan s client (SetCreds euid egid groups)) (clock-becoming s client euid egid groups)
clock-kept s client (Assume creds) = Ends-decision (creds_at s client) (KeepsClock s) (plan s client (Assume creds)) (clock-assume s client creds)
clock-kept s client (Begin p creds) = Ends-decision (creds_at s client) (KeepsClock s) (plan s client (Begin p creds)) (clock-begins s client p creds)
clock-kept s client (Fork child p) = Ends-decision (creds_at s client) (KeepsClock s) (plan s client (Fork child p)) (clock-forks s client child p)
clock-kept s client (Clone child) = Ends-decision (creds_at s client) (KeepsClock s) (plan s client (Clone child)) (clock-clones s client child)
clock-kept s client (Name p) = Ends-decision (creds_at s client) (KeepsClock s) (plan s client (Name p)) (clock-name s client p)
clock-kept s client Exit = Ends-decision (creds_at s client) (KeepsClock s) (plan s client Exit) (clock-ends s client)
clock-kept s client (Kill p) = Ends-decision (creds_at s client) (KeepsClock s) (plan s client (Kill p)) (clock-kill s client p)
clock-kept s client Exec = Ends-decision (creds_at s client) (KeepsClock s) (plan s client Exec) (clock-exec s client)
clock-kept s client call = granted-so (KeepsBoth s) (KeepsClock s) (λ answer new both. both.0) (decide s client call) (both-kept s client call refl)
