-- The serial number of the process that comes next: begin and fork raise it by one, and no other call does.
use Rattle.std.proofs.Common.{◌≡◌, ℕ, zero, suc, ◌+◌, ◌≤◌, Bool, true, false, cond, List, [], ◌∷◌, length, refl, sym, ap, ◌∙◌, subst, arith, Option, Some, None}
use Rattle.std.specs.Prelude.{◌==◌, not, is_none, is_some, slice_get, if◌then◌else◌}
use Rattle.std.specs.List.{AllByRecursion, find}
use Rattle.std.proofs.lemmas.Bool.{false≢true, true≢false}
use Rattle.ipc_call.specs.declared.calls.Call.{Call}
use Rattle.ipc_call.specs.declared.calls.Call.TheVariants.{IpcStat, IpcSet, IpcRmid, Listing, Interrupt, SetCreds, Assume, Begin, Fork, Clone, Name, Exec, Exit, Kill, InterruptThread}
use Rattle.ipc_call.specs.declared.calls.Identity.{Identity}
use Rattle.ipc_call.specs.declared.calls.Kind.{Kind}
use Rattle.ipc_call.specs.declared.calls.Kind.TheVariants as kinds
use Rattle.ipc_call.specs.declared.settings.Settings.{Settings}
use Rattle.ipc_call.specs.declared.replies.Answer.{Answer}
use Rattle.ipc_call.specs.declared.replies.Answer.TheVariants.{Done}
use Rattle.ipc_call.specs.declared.replies.Waiting.{Waiting}
use Rattle.ipc_call.specs.declared.rules.Rule.TheVariants.{BadId, ClientInUse, NoClient, NoProcess}
use Rattle.ipc_perm.specs.Access.{Resource, SameUser, SetGroups}
use Rattle.ipc_model.specs.State.{State, caller, creds_at, has_pid, is_running, opening, pid_at, process_at}
use Rattle.ipc_model.specs.Plan.{Needs, Plan, ◌⨾◌}
use Rattle.ipc_model.specs.Plan as plans
use Rattle.ipc_model.specs.Decision.{Decision, Refused, Waits, Granted, proceeds}
use Rattle.ipc_model.specs.Cancelled.{cancelled}
use Rattle.ipc_model.specs.Controls.{is_within, perm_of, removed, status_of, with_set}
use Rattle.ipc_model.specs.Processes.{ended, free_client, process_ended, to_signal}
use Rattle.ipc_model.specs.Decide.{OnQueues, OnSems, OnShared, OnState, PartPlan, can_wait, decide, decide_call, is_late, part_plan, plan, whole}
use Rattle.ipc_model.specs.Step.{Event, Moved, at_time, begun, cancelled_by, end_waiting, ended_by, expired, first_ready, is_ready, settle, settle_from, state_by, step, waiting_as, without}
use Rattle.ipc_model.proofs.Beside.{is_on_part}
use Rattle.ipc_model.proofs.Calls.{Keeps-decide}
use Rattle.ipc_model.proofs.Growing.{Keeps}
use Rattle.ipc_model.proofs.Late.{Keeps-call, at-as, late-granted, only_parkable_call}
use Rattle.ipc_model.proofs.Plans.{Ends, Ends-decision, Ends-found, Ends-on, Ends-order, IfGranted}
use Rattle.ipc_namespace.proofs.Parked.{all-filter, all-found, all-push}
use Rattle.ipc_history.specs.History.{History, run, run_from}

-- a grant leaves the number, or raises it by one
abbrev Same : State → Answer → State → Type 0
Same s answer new = new.next ≡ s.next

abbrev OneMore : State → Answer → State → Type 0
OneMore s answer new = new.next ≡ s.next + 1

abbrev Above : State → Answer → State → Type 0
Above s answer new = new.next ≤ s.next + 1

every-end : {X : Type 0} (P : Answer → X → Type 0) → ((answer : Answer) (x : X) → P answer x) → (p : Plan X) → Ends P p
every-end P all (check ⨾ rest) = every-end P all rest
every-end P all (plans.Refuse rule plain) = tt
every-end P all (plans.Grant answer new) = all answer new

granted-so : {X : Type 0} (P Q : Answer → X → Type 0) → ((answer : Answer) (x : X) → P answer x → Q answer x) → (d : Decision X) → IfGranted P d → IfGranted Q d
granted-so P Q so (Refused rule) is = tt
granted-so P Q so Waits is = tt
granted-so P Q so (Granted answer new) is = so answer new is

next-part : (s : State) (p : PartPlan) → is_on_part p ≡ true → Ends (Same s) (whole s p)
next-part s (OnQueues p) on = Ends-on (λ queues. record s { queues = queues }) (Same s) p (every-end _ (λ answer x. refl) p)
next-part s (OnSems p) on = Ends-on (λ sems. record s { sems = sems }) (Same s) p (every-end _ (λ answer x. refl) p)
next-part s (OnShared p) on = Ends-on (λ shared. record s { shared = shared }) (Same s) p (every-end _ (λ answer x. refl) p)
next-part s (OnState p) on = absurd (true≢false (sym on))

next-removed : (s : State) (kind : Kind) (id : ℕ) → Same s Done (removed s kind id)
next-removed s kinds.Queue id = refl
next-removed s kinds.Sems id = refl
next-removed s kinds.Segment id = refl

next-set : (s : State) (kind : Kind) (id : ℕ) (new : Settings) → Same s Done (with_set s kind id new)
next-set s kinds.Queue id new = refl
next-set s kinds.Sems id new = refl
next-set s kinds.Segment id new = refl

next-cond : (s : State) (client : ℕ) (running : Bool) → Same s Done (cond running (ended s client) (process_ended (ended s client) (caller s client)))
next-cond s client true = refl
next-cond s client false = refl

-- a call by which a process begins
abbrev begins_process : Call → Bool
begins_process (Begin p creds) = true
begins_process (Fork child p) = true
begins_process call = false

-- each other call leaves it
next-plan : (s : State) (client : ℕ) (call : Call) → begins_process call ≡ false → Ends (Same s) (plan s client call)
unfolding part_plan
next-plan s client (Begin p creds) other = absurd (true≢false other)
next-plan s client (Fork child p) other = absurd (true≢false other)
next-plan s client (SetCreds euid egid groups) other = Ends-order (Same s) (if is_some groups then Needs SetGroups ∷ [] else []) _ refl
next-plan s client (Assume creds) other = refl
next-plan s client (Clone child) other = Ends-found (Same s) (free_client s child) ClientInUse tt _ (λ t is. refl)
next-plan s client (Name p) other = refl
next-plan s client Exec other = refl
next-plan s client (Kill p) other = Ends-found (Same s) (find (has_pid p) s.threads) NoProcess tt _ (λ t is. Ends-order (Same s) (to_signal s (caller s client) p) _ refl)
next-plan s client Exit other = next-cond s client (is_running (ended s client) (process_at s client))
next-plan s client (IpcStat kind id) other = Ends-found (Same s) (status_of s kind id) BadId tt _ (λ told is. refl)
next-plan s client (IpcSet kind id uid gid mode qbytes) other =
    let new : Settings = record { uid = uid; gid = gid; mode = mode; qbytes = qbytes } in
    Ends-found (Same s) (perm_of s kind id) BadId tt _
    (λ perm is. Ends-order (Same s) (if is_within s qbytes then [] else Needs Resource ∷ []) _ (next-set s kind id new))
next-plan s client (IpcRmid kind id) other = Ends-found (Same s) (perm_of s kind id) BadId tt _ (λ perm is. next-removed s kind id)
next-plan s client (Listing kind) other = refl
next-plan s client (Interrupt p) other = Ends-order (Same s) (to_signal s (caller s client) p) _ refl
next-plan s client (InterruptThread target) other = Ends-found (Same s) (slice_get s.threads target) NoClient tt _ (λ t is.
    Ends-order (Same s) (if t.pid == pid_at s client then [] else Needs (SameUser (creds_at s target).euid) ∷ []) _ refl)
next-plan s client call other = next-part s (part_plan s (caller s client) call) refl

next-kept : (s : State) (client : ℕ) (call : Call) → begins_process call ≡ false → IfGranted (Same s) (decide s client call)
next-kept s client call other = Ends-decision (creds_at s client) (Same s) (plan s client call) (next-plan s client call other)

next-begins : (s : State) (client p : ℕ) (creds : Identity) → Ends (OneMore s) (plan s client (Begin p creds))
unfolding part_plan
next-begins s client p creds = Ends-found (OneMore s) (free_client s client) ClientInUse tt _ (λ t is. refl)

next-forks : (s : State) (client child p : ℕ) → Ends (OneMore s) (plan s client (Fork child p))
unfolding part_plan
next-forks s client child p = Ends-found (OneMore s) (free_client s child) ClientInUse tt _ (λ t is. refl)

raised : (s : State) (answer : Answer) (new : State) → OneMore s answer new → Above s answer new
raised s answer new one = omega (arith, one)

left : (s : State) (answer : Answer) (new : State) → Same s answer new → Above s answer new
left s answer new same = omega (arith, same)

raises : (s : State) (client : ℕ) (call : Call) → IfGranted (Above s) (decide s client call)
raises s client (Begin p creds) = granted-so (OneMore s) (Above s) (raised s) (decide s client (Begin p creds)) (Ends-decision (creds_at s client) (OneMore s) (plan s client (Begin p creds)) (next-begins s client p creds))
raises s client (Fork child p) = granted-so (OneMore s) (Above s) (raised s) (decide s client (Fork child p)) (Ends-decision (creds_at s client) (OneMore s) (plan s client (Fork child p)) (next-forks s client child p))
raises s client call = granted-so (Same s) (Above s) (left s) (decide s client call) (next-kept s client call refl)

-- no process begins by a call that may wait
waits-none : (call : Call) → can_wait call ≡ true → begins_process call ≡ false
waits-none (Begin p creds) can = absurd (false≢true can)
waits-none (Fork child p) can = absurd (false≢true can)
waits-none call can = refl

-- each that waits may wait
abbrev MayWait : Waiting → Type 0
MayWait w = can_wait w.call ≡ true

abbrev AllMayWait : State → Type 0
AllMayWait s = AllByRecursion MayWait s.parked

abbrev Stays : State → Moved → Type 0
Stays s m = AllMayWait m.state × (m.state.next ≡ s.next)

kept-by : (s : State) (client : ℕ) (d : Decision State) → Keeps s d → (ended_by s client d).state.parked ≡ s.parked
kept-by s client (Refused rule) keeps = refl
kept-by s client Waits keeps = refl
kept-by s client (Granted answer new) keeps = keeps.0

next-by : (s : State) (client : ℕ) (d : Decision State) → IfGranted (Same s) d → (ended_by s client d).state.next ≡ s.next
next-by s client (Refused rule) same = refl
next-by s client Waits same = refl
next-by s client (Granted answer new) same = same

stays-end : (s : State) (w : Waiting) → MayWait w → AllMayWait s → Stays s (end_waiting s w)
stays-end s w may all =
    let rest = without s w.client in
    let d = decide rest w.client w.call in (
      subst (AllByRecursion MayWait) (sym (kept-by rest w.client d (Keeps-decide rest w.client w.call))) (all-filter MayWait (λ v. not (v.client == w.client)) s.parked all),
      next-by rest w.client d (next-kept rest w.client w.call (waits-none w.call may)),
    )

stays-settle_from : (n : ℕ) → ((t : State) → AllMayWait t → Stays t (settle n t)) → (s : State) (o : Option Waiting) → first_ready s ≡ o → AllMayWait s → Stays s (settle_from (settle n) s o)
stays-settle_from n settles s None is all = (all, refl)
stays-settle_from n settles s (Some w) is all =
    let one = stays-end s w (all-found MayWait (is_ready s) s.parked w all is) all in
    let rest = settles (end_waiting s w).state one.0 in
    (rest.0, rest.1 ∙ one.1)

stays-settle : (n : ℕ) (s : State) → AllMayWait s → Stays s (settle n s)
stays-settle zero s all = (all, refl)
stays-settle (suc n) s all = stays-settle_from n (stays-settle n) s (first_ready s) refl all

may-state_by : (s : State) (client : ℕ) (call : Call) (d : Decision State) → Keeps s d → (proceeds d ≡ false → can_wait call ≡ true) → AllMayWait s → AllMayWait (state_by s client call d)
may-state_by s client call (Refused rule) keeps may all = all
may-state_by s client call Waits keeps may all = all-push MayWait s.parked (waiting_as s client call) all (ap (λ o. is_some o) (at-as call) ∙ may refl)
may-state_by s client call (Granted answer new) keeps may all = subst (AllByRecursion MayWait) (sym keeps.0) all

above-state_by : (s : State) (client : ℕ) (call : Call) (d : Decision State) → IfGranted (Above s) d → (state_by s client call d).next ≤ s.next + 1
above-state_by s client call (Refused rule) above = omega arith
above-state_by s client call Waits above = omega arith
above-state_by s client call (Granted answer new) above = above

stays-cancelled_by : (s : State) (call : Call) (d : Decision State) → AllMayWait s → Stays s (cancelled_by s call d)
stays-cancelled_by s call (Refused rule) all = (all, refl)
stays-cancelled_by s call Waits all = (all, refl)
stays-cancelled_by s call (Granted answer new) all = (all-filter MayWait (λ w. is_none (cancelled s call w)) s.parked all, refl)

above-step : (s : State) (e : Event) → AllMayWait s → AllMayWait (step s e).state × ((step s e).state.next ≤ s.next + 1)
above-step s e all =
    let now = begun s e.now in
    let d = decide_call now e.client e.call in
    let by = state_by now e.client e.call d in
    let m = cancelled_by by e.call d in
    let first = all-filter MayWait (λ w. is_none (expired (at_time s e.now) w)) s.parked all in
    let entered = may-state_by now e.client e.call d (Keeps-call now e.client e.call) (only_parkable_call now e.client e.call) first in
    let above = above-state_by now e.client e.call d (late-granted (Above now) (is_late now e.call) (decide now e.client e.call) (raises now e.client e.call)) in
    let moved = stays-cancelled_by by e.call d entered in
    let last = stays-settle (length m.state.parked) m.state moved.0 in
    (last.0, omega (arith, above, moved.1, last.1))

above-from : (s : State) (es : List Event) → AllMayWait s → (run_from s es).next ≤ s.next + length es
above-from s [] all = omega arith
above-from s (e ∷ es) all =
    let one = above-step s e all in
    let rest = above-from (step s e).state es one.0 in
    omega (arith, one.1, rest)

pub next_bounded : (h : History) → (run h).next ≤ length h.clients + length h.events
next_bounded h = above-from (opening h.limits h.clients) h.events tt
