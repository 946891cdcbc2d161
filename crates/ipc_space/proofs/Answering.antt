-- Each call ends with an answer of its own, and only one that may wait is made to wait.
use Rattle.std.proofs.Common.{◌≡◌, ℕ, zero, suc, Bool, true, false, List, [], ◌∷◌, ◌++◌, length, refl, sym, ap, ◌∙◌, subst, Option, Some, None, Ok, Err, ⊎_elim, All, ℤ}
use Rattle.std.specs.Prelude.{if◌then◌else◌, ◌==◌, ◌&&◌, ◌||◌, not, filter, flat_map, is_none, is_some, option_map, slice_get}
use Rattle.std.specs.List.{find, list_any, AllByRecursion}
use Rattle.std.specs.FinMap as finite
use Rattle.std.proofs.lemmas.Bool.{cases_Bool, eq-eqb, or_parts, true≢false}
use Rattle.std.proofs.lemmas.List.Elements.{All-nil, All-cons}
use Rattle.std.proofs.lemmas.Option.{none-some, same_Some}
use Rattle.ipc_objects.specs.Objects.{with_contents}
use Rattle.ipc_call.specs.declared.settings.Receive.{Receive}
use Rattle.ipc_call.specs.declared.calls.Call.{Call}
use Rattle.ipc_call.specs.declared.calls.Call.TheVariants.{MsgGet, MsgSnd, MsgRcv, SemGet, SemOp, SemTimedOp, GetVal, GetPid, GetNcnt, GetZcnt, GetAll, SetVal, SetAll, ShmGet, ShmAt, ShmDt, ShmRead, ShmWrite, Exit, IpcStat, IpcSet, IpcRmid, Listing, Interrupt, InterruptThread, Kill, SetCreds, Assume, Begin, Fork, Clone, Name, Exec}
use Rattle.ipc_call.specs.declared.calls.Kind.{Kind}
use Rattle.ipc_call.specs.declared.calls.Kind.TheVariants as kinds
use Rattle.ipc_call.specs.declared.replies.Answer.{Answer}
use Rattle.ipc_call.specs.declared.replies.Answer.TheVariants.{Id, Done, Message as MessageAnswer}
use Rattle.ipc_call.specs.declared.replies.Completion.{Completion}
use Rattle.ipc_call.specs.declared.replies.Status.{Status}
use Rattle.ipc_call.specs.declared.replies.Waiting.{Waiting}
use Rattle.ipc_call.specs.declared.rules.Rule.{Rule}
use Rattle.ipc_call.specs.declared.rules.Rule.TheVariants.{BadId, ClientInUse, NoClient, NoProcess, NoSlot, NotAttached, TooManyAttached}
use Rattle.ipc_call.specs.declared.perms.Perm.{Perm}
use Rattle.ipc_ids.specs.Table.{Table, next_id}
use Rattle.ipc_objects.specs.declared.object.Object.{Object}
use Rattle.msg_queue.specs.declared.messages.Message.{Message}
use Rattle.shm_seg.specs.Attachments.{attachment_at, free_number}
use Rattle.sem_undo.specs.Entries.{adj_of}
use Rattle.ipc_model.specs.State.{Caller, Queue, Queues, SemSet, Sems, Shared, State, Thread, caller, creds_at, has_pid, pid_at, process_at}
use Rattle.ipc_model.specs.Decision.{Decision, Outcome, Refused, Waits, Granted, outcome_of, proceeds}
use Rattle.ipc_model.specs.Plan.{Needs, Plan, on_part}
use Rattle.ipc_model.specs.Plan as plans
use Rattle.ipc_perm.specs.Access.{Resource, SameUser, SetGroups}
use Rattle.ipc_model.specs.Gets.{Getting, get, get_found, get_queue, get_segment, get_set, getting_queue, getting_segment, getting_set, object_of_key, Get}
use Rattle.ipc_model.specs.Messages.{chosen, queue_at, receive_message, send_message, take_chosen}
use Rattle.ipc_model.specs.Semaphores.{get_all, get_pid, get_value, operate, operated, set_all, set_at, set_value, trial_checks}
use Rattle.ipc_model.specs.Segments.{attach, behind, detach, read_bytes, segment_at, write_bytes}
use Rattle.ipc_model.specs.Processes.{free_client, to_signal}
use Rattle.ipc_model.specs.Controls.{is_within, perm_of, status_of, with_set}
use Rattle.ipc_model.specs.Decide.{OnQueues, OnSems, OnShared, can_wait, decide, decide_call, is_late, get_waiting, is_negative, is_zero, part_plan, plan, whole}
use Rattle.ipc_model.specs.Cancelled.{cancelled}
use Rattle.ipc_model.specs.Step.{Event, at_time, begun, expire, expired, cancel, end_waiting, ended_by, entered, first_ready, is_ready, settle, settle_from, settled, ended_by_rule, without}
use Rattle.ipc_history.specs.History.{History, next_step, run}
use Rattle.ipc_model.proofs.Calls.{Keeps-decide}
use Rattle.ipc_model.proofs.Growing.{Keeps}
use Rattle.ipc_model.proofs.Plans.{Ends, Ends-decision, Ends-found, Ends-on, Ends-order, IfGranted}
use Rattle.ipc_namespace.proofs.Own.{none-found}
use Rattle.ipc_model.proofs.Late.{Keeps-call, late-granted, only_parkable_call}
use Rattle.ipc_space.proofs.Alone.{ends_none}
use Rattle.ipc_space.proofs.Quiet.{IsQuiet, quiet-begun}
use Rattle.ipc_space.specs.Answers.{can_end, can_give, is_end_of, is_status_of}

-- what is granted is an answer of the call, whatever is left
abbrev Gives : {X : Type 0} → Call → Answer → X → Type 0
Gives call answer new = can_give call answer ≡ true

module _ {X : Type 0} (call : Call) (id : (n : ℕ) → can_give call (Id n) ≡ true) where
  gives-get : (t : Table (Object X)) (who : Caller) (asked : Get) (getting : Getting X) (there : Option (ℕ × Object X)) → Ends (Gives call) (get_found t who asked getting there)
  gives-get t who asked getting None = Ends-order (Gives call) getting.to_make _ (Ends-found (Gives call) (next_id t) NoSlot tt _ (λ n is. id n))
  gives-get t who asked getting (Some there) = Ends-order (Gives call) (getting.to_find there.1.contents) (plans.Grant (Id there.0) t) (id there.0)

-- what is told of an object of the kind is a status of the kind
module _ {X : Type 0} (kind : Kind) (told : X → Perm × Status) (each : (x : X) → is_status_of kind (told x).1 ≡ true) where
  status-told : (o : Option X) (t : Perm × Status) → option_map told o ≡ Some t → is_status_of kind t.1 ≡ true
  status-told None t is = absurd (none-some t is)
  status-told (Some x) t is = subst (λ (u : Perm × Status). is_status_of kind u.1 ≡ true) (same_Some (told x) t is) (each x)

status-kind : (s : State) (kind : Kind) (id : ℕ) (t : Perm × Status) → status_of s kind id ≡ Some t → is_status_of kind t.1 ≡ true
status-kind s kinds.Queue id t is = status-told kinds.Queue _ (λ queue. refl) (finite.get s.queues.objects id) t is
status-kind s kinds.Sems id t is = status-told kinds.Sems _ (λ set. refl) (finite.get s.sems.sets.objects id) t is
status-kind s kinds.Segment id t is = status-told kinds.Segment _ (λ segment. refl) (segment_at s.shared id) t is

module _ (s : State) (call : Call) where
  on-queues : (p : Plan Queues) → Ends (Gives call) p → Ends (Gives call) (whole s (OnQueues p))
  on-queues p gives = Ends-on (λ queues. record s { queues = queues }) (Gives call) p gives

  on-sems : (p : Plan Sems) → Ends (Gives call) p → Ends (Gives call) (whole s (OnSems p))
  on-sems p gives = Ends-on (λ sems. record s { sems = sems }) (Gives call) p gives

  on-shared : (p : Plan Shared) → Ends (Gives call) p → Ends (Gives call) (whole s (OnShared p))
  on-shared p gives = Ends-on (λ shared. record s { shared = shared }) (Gives call) p gives

gives-take : (call : Call) → ((mtype : ℤ) (text : List ℕ) → can_give call (MessageAnswer mtype text) ≡ true)
    → (queues : Queues) (who : Caller) (id : ℕ) (asked : Receive) (queue : Queue) (taken : Option (ℕ × Message)) → Ends (Gives call) (on_part (with_contents queues id) (take_chosen who asked queue taken))
gives-take call gives queues who id asked queue None = tt
gives-take call gives queues who id asked queue (Some taken) = gives taken.1.mtype _

-- each call
gives-plan : (s : State) (client : ℕ) (call : Call) → Ends (Gives call) (plan s client call)
unfolding part_plan
gives-plan s client (MsgGet key flags) =
    let asked : Get = record { key = key; flags = flags } in
    let call = MsgGet key flags in
    on-queues s call (get_queue s.limits s.queues (caller s client) asked) (gives-get call (λ n. refl) s.queues (caller s client) asked (getting_queue s.limits) (object_of_key s.queues key))
gives-plan s client (MsgSnd id mtype text flags) =
    let call = MsgSnd id mtype text flags in
    on-queues s call (send_message s.limits s.queues (caller s client) id (record { message = record { mtype = mtype; text = text }; flags = flags })) (Ends-found (Gives call) (queue_at s.queues id) BadId tt _ (λ queue is. refl))
gives-plan s client (MsgRcv id size msgtyp flags) =
    let asked : Receive = record { size = size; msgtyp = msgtyp; flags = flags } in
    let call = MsgRcv id size msgtyp flags in
    on-queues s call (receive_message s.queues (caller s client) id asked) (Ends-found (Gives call) (queue_at s.queues id) BadId tt _ (λ (queue : Object Queue) is.
    gives-take call (λ mtype text. refl) s.queues (caller s client) id asked queue.contents (chosen queue.contents.messages asked)))
gives-plan s client (SemGet key nsems flags) =
    let asked : Get = record { key = key; flags = flags } in
    let call = SemGet key nsems flags in
    let got = get s.sems.sets (caller s client) asked (getting_set nsems) in
    on-sems s call (get_set s.limits s.sems (caller s client) asked nsems)
    (Ends-on (λ sets. record s.sems { sets = sets }) (Gives call) got (gives-get call (λ n. refl) s.sems.sets (caller s client) asked (getting_set nsems) (object_of_key s.sems.sets key)))
gives-plan s client (SemOp id ops) =
    let call = SemOp id ops in
    on-sems s call (operate s.limits s.sems (caller s client) id ops) (Ends-found (Gives call) (set_at s.sems id) BadId tt _ (λ (set : Object SemSet) is.
    Ends-order (Gives call) (trial_checks set.contents.semaphores (adj_of s.sems.undo (process_at s client) id) [] ops) (plans.Grant Done (operated s.sems (caller s client) id ops set.contents)) refl))
gives-plan s client (SemTimedOp id ops timeout) =
    let call = SemTimedOp id ops timeout in
    on-sems s call (operate s.limits s.sems (caller s client) id ops) (Ends-found (Gives call) (set_at s.sems id) BadId tt _ (λ (set : Object SemSet) is.
    Ends-order (Gives call) (trial_checks set.contents.semaphores (adj_of s.sems.undo (process_at s client) id) [] ops) (plans.Grant Done (operated s.sems (caller s client) id ops set.contents)) refl))
gives-plan s client (GetVal id num) = on-sems s (GetVal id num) (get_value s.sems id num) (Ends-found (Gives (GetVal id num)) (set_at s.sems id) BadId tt _ (λ set is. refl))
gives-plan s client (GetPid id num) = on-sems s (GetPid id num) (get_pid s.sems id num) (Ends-found (Gives (GetPid id num)) (set_at s.sems id) BadId tt _ (λ set is. refl))
gives-plan s client (GetNcnt id num) = on-sems s (GetNcnt id num) (get_waiting s id num (is_negative num)) (Ends-found (Gives (GetNcnt id num)) (set_at s.sems id) BadId tt _ (λ set is. refl))
gives-plan s client (GetZcnt id num) = on-sems s (GetZcnt id num) (get_waiting s id num (is_zero num)) (Ends-found (Gives (GetZcnt id num)) (set_at s.sems id) BadId tt _ (λ set is. refl))
gives-plan s client (GetAll id) = on-sems s (GetAll id) (get_all s.sems id) (Ends-found (Gives (GetAll id)) (set_at s.sems id) BadId tt _ (λ set is. refl))
gives-plan s client (SetVal id num value) = on-sems s (SetVal id num value) (set_value s.sems (caller s client) id num value) (Ends-found (Gives (SetVal id num value)) (set_at s.sems id) BadId tt _ (λ set is. refl))
gives-plan s client (SetAll id values) = on-sems s (SetAll id values) (set_all s.sems (caller s client) id values) (Ends-found (Gives (SetAll id values)) (set_at s.sems id) BadId tt _ (λ set is. refl))
gives-plan s client (ShmGet key size flags) =
    let asked : Get = record { key = key; flags = flags } in
    let call = ShmGet key size flags in
    let getting = getting_segment s.limits (pid_at s client) size in
    let got = get s.shared.segments (caller s client) asked getting in
    on-shared s call (get_segment s.limits s.shared (caller s client) asked size)
    (Ends-on (λ segments. record s.shared { segments = segments }) (Gives call) got (gives-get call (λ n. refl) s.shared.segments (caller s client) asked getting (object_of_key s.shared.segments key)))
gives-plan s client (ShmAt id flags) =
    let call = ShmAt id flags in
    on-shared s call (attach s.shared (caller s client) id flags)
    (Ends-found (Gives call) (segment_at s.shared id) BadId tt _ (λ segment there. Ends-found (Gives call) (free_number s.shared.attached (process_at s client)) TooManyAttached tt _ (λ number free. refl)))
gives-plan s client (ShmDt att) = on-shared s (ShmDt att) (detach s.shared (caller s client) att) (Ends-found (Gives (ShmDt att)) (attachment_at s.shared.attached (process_at s client) att) NotAttached tt _ (λ a is. refl))
gives-plan s client (ShmRead att offset len) =
    on-shared s (ShmRead att offset len) (read_bytes s.shared (caller s client) att offset len) (Ends-found (Gives (ShmRead att offset len)) (behind s.shared (process_at s client) att) NotAttached tt _ (λ there is. refl))
gives-plan s client (ShmWrite att offset bytes) =
    on-shared s (ShmWrite att offset bytes) (write_bytes s.shared (caller s client) att offset bytes) (Ends-found (Gives (ShmWrite att offset bytes)) (behind s.shared (process_at s client) att) NotAttached tt _ (λ there is. refl))
gives-plan s client (IpcStat kind id) = Ends-found (Gives (IpcStat kind id)) (status_of s kind id) BadId tt _ (λ told is. status-kind s kind id told is)
gives-plan s client (IpcSet kind id uid gid mode qbytes) =
    let call = IpcSet kind id uid gid mode qbytes in
    let new = with_set s kind id (record { uid = uid; gid = gid; mode = mode; qbytes = qbytes }) in
    Ends-found (Gives call) (perm_of s kind id) BadId tt _ (λ perm is. Ends-order (Gives call) (if is_within s qbytes then [] else plans.Needs Resource ∷ []) (plans.Grant Done new) refl)
gives-plan s client (IpcRmid kind id) = Ends-found (Gives (IpcRmid kind id)) (perm_of s kind id) BadId tt _ (λ perm is. refl)
gives-plan s client (Listing kind) = refl
gives-plan s client (Interrupt pid) = Ends-order (Gives (Interrupt pid)) (to_signal s (caller s client) pid) (plans.Grant Done s) refl
gives-plan s client (InterruptThread target) = Ends-found (Gives (InterruptThread target)) (slice_get s.threads target) NoClient tt _ (λ (thread : Thread) is.
    Ends-order (Gives (InterruptThread target)) (if thread.pid == pid_at s client then [] else plans.Needs (SameUser (creds_at s target).euid) ∷ []) (plans.Grant Done s) refl)
gives-plan s client (Kill pid) = Ends-found (Gives (Kill pid)) (find (has_pid pid) s.threads) NoProcess tt _ (λ thread is. Ends-order (Gives (Kill pid)) (to_signal s (caller s client) pid) _ refl)
gives-plan s client (SetCreds euid egid groups) =
    Ends-order (Gives (SetCreds euid egid groups)) (if is_some groups then plans.Needs SetGroups ∷ [] else []) _ refl
gives-plan s client (Assume creds) = refl
gives-plan s client (Begin pid creds) = Ends-found (Gives (Begin pid creds)) (free_client s client) ClientInUse tt _ (λ thread is. refl)
gives-plan s client (Fork child pid) = Ends-found (Gives (Fork child pid)) (free_client s child) ClientInUse tt _ (λ thread is. refl)
gives-plan s client (Clone child) = Ends-found (Gives (Clone child)) (free_client s child) ClientInUse tt _ (λ thread is. refl)
gives-plan s client (Name pid) = refl
gives-plan s client Exec = refl
gives-plan s client Exit = refl

gives-decide : (s : State) (client : ℕ) (call : Call) → IfGranted (Gives call) (decide s client call)
gives-decide s client call = Ends-decision (creds_at s client) (Gives call) (plan s client call) (gives-plan s client call)

-- a call's own answer
own-decided : (call : Call) (d : Decision State) (answer : Answer) → IfGranted (Gives call) d → outcome_of d ≡ Some (Ok answer) → can_give call answer ≡ true
own-decided call (Refused rule) answer gives own = cc
own-decided call Waits answer gives own = absurd (none-some _ own)
own-decided call (Granted other new) answer gives own =
    let same : other ≡ answer = cc in
    ap (can_give call) (sym same) ∙ gives

pub own_answer : (h : History) (e : Event) (answer : Answer) → (next_step h e).own ≡ Some (Ok answer) → can_give e.call answer ≡ true
own_answer h e answer own =
    let s = begun (run h) e.now in own-decided e.call (decide_call s e.client e.call) answer (late-granted (Gives e.call) (is_late s e.call) (decide s e.client e.call) (gives-decide s e.client e.call)) own

waits-decided : (d : Decision State) → outcome_of d ≡ None → proceeds d ≡ false
waits-decided (Refused rule) none = absurd (none-some _ (sym none))
waits-decided Waits none = refl
waits-decided (Granted answer new) none = absurd (none-some _ (sym none))

pub who_waits : (h : History) (e : Event) → (next_step h e).own ≡ None → can_wait e.call ≡ true
who_waits h e none =
    let s = begun (run h) e.now in only_parkable_call s e.client e.call (waits-decided (decide_call s e.client e.call) none)

-- the waiting calls that end are among those that waited
any-filter : (test keep : Waiting → Bool) (ws : List Waiting) → list_any test ws ≡ false → list_any test (filter keep ws) ≡ false
any-filter test keep [] none = refl
any-filter test keep (w ∷ ws) none =
    let parts = or_parts (test w) (list_any test ws) none in
    let rest = any-filter test keep ws parts.1 in
    ⊎_elim
    (λ (yes : keep w ≡ true). rw yes (ap (λ b. b || list_any test (filter keep ws)) parts.0 ∙ rest))
    (λ (no : keep w ≡ false). rw no rest)
    (cases_Bool (keep w))

module _ (ws : List Waiting) where
  abbrev AreAmong : List Waiting → Type 0
  AreAmong vs = (test : Waiting → Bool) → list_any test ws ≡ false → list_any test vs ≡ false

  among-filter : (keep : Waiting → Bool) (vs : List Waiting) → AreAmong vs → AreAmong (filter keep vs)
  among-filter keep vs among test none = any-filter test keep vs (among test none)

  abbrev AreEnds : List Completion → Type 0
  AreEnds es = AllByRecursion (λ e. is_end_of ws e ≡ true) es

  ends-append : (es fs : List Completion) → AreEnds es → AreEnds fs → AreEnds (es ++ fs)
  ends-append [] fs first second = second
  ends-append (e ∷ es) fs first second = (first.0, ends-append es fs first.1 second)

  -- a call that is among them ends as it can
  one-end : (w : Waiting) (o : Outcome) → can_end w.call o ≡ true → ((test : Waiting → Bool) → list_any test ws ≡ false → test w ≡ false) → is_end_of ws (record { client = w.client; outcome = o }) ≡ true
  one-end w o can among =
      let test : Waiting → Bool = λ v. v.client == w.client && can_end v.call o in
      let own : (w.client == w.client) ≡ true = eq-eqb w.client w.client refl in
      let passes : test w ≡ true = ap (λ b. b && can_end w.call o) own ∙ can in
      ⊎_elim
      (λ (yes : list_any test ws ≡ true). yes)
      (λ (no : list_any test ws ≡ false). absurd (true≢false (sym passes ∙ among test no)))
      (cases_Bool (list_any test ws))

  ends-by : (s : State) (w : Waiting) (d : Decision State) → IfGranted (Gives w.call) d → ((test : Waiting → Bool) → list_any test ws ≡ false → test w ≡ false) → AreEnds (ended_by s w.client d).ended
  ends-by s w (Refused rule) gives among = (one-end w (Err rule) refl among, tt)
  ends-by s w Waits gives among = tt
  ends-by s w (Granted answer new) gives among = (one-end w (Ok answer) gives among, tt)

  ends-waiting : (s : State) (w : Waiting) → AreAmong s.parked → first_ready s ≡ Some w → AreEnds (end_waiting s w).ended
  ends-waiting s w among first =
      let rest = without s w.client in
      ends-by rest w (decide rest w.client w.call) (gives-decide rest w.client w.call) (λ test none. none-found test (is_ready s) s.parked w (among test none) first)

  kept-ended_by : (s : State) (client : ℕ) (d : Decision State) → Keeps s d → AreAmong s.parked → AreAmong (ended_by s client d).state.parked
  kept-ended_by s client (Refused rule) keeps among = among
  kept-ended_by s client Waits keeps among = among
  kept-ended_by s client (Granted answer new) keeps among = subst AreAmong (sym keeps.0) among

  among-waiting : (s : State) (w : Waiting) → AreAmong s.parked → AreAmong (end_waiting s w).state.parked
  among-waiting s w among =
      let rest = without s w.client in
      kept-ended_by rest w.client (decide rest w.client w.call) (Keeps-decide rest w.client w.call) (among-filter (λ v. not (v.client == w.client)) s.parked among)

  ends-settle_from : (n : ℕ) → ((t : State) → AreAmong t.parked → AreEnds (settle n t).ended) → (s : State) (o : Option Waiting) → first_ready s ≡ o → AreAmong s.parked → AreEnds (settle_from (settle n) s o).ended
  ends-settle_from n settles s None is among = tt
  ends-settle_from n settles s (Some w) is among =
      let next = end_waiting s w in
      ends-append next.ended (settle n next.state).ended (ends-waiting s w among is) (settles next.state (among-waiting s w among))

  ends-settle : (n : ℕ) (s : State) → AreAmong s.parked → AreEnds (settle n s).ended
  ends-settle zero s among = tt
  ends-settle (suc n) s among = ends-settle_from n (ends-settle n) s (first_ready s) refl among

  ends-told : (w : Waiting) (o : Option Rule) (es : List Completion) → ((test : Waiting → Bool) → list_any test ws ≡ false → test w ≡ false) → AreEnds es → AreEnds (ended_by_rule w.client o ++ es)
  ends-told w None es among rest = rest
  ends-told w (Some rule) es among rest = (one-end w (Err rule) refl among, rest)

  ends-cancelled : (f : Waiting → Option Rule) (vs : List Waiting) → AreAmong vs → AreEnds (flat_map (λ w. ended_by_rule w.client (f w)) vs)
  ends-cancelled f [] among = tt
  ends-cancelled f (v ∷ vs) among =
      let first : (test : Waiting → Bool) → list_any test ws ≡ false → test v ≡ false = λ test none. (or_parts (test v) (list_any test vs) (among test none)).0 in
      let later : AreAmong vs = λ test none. (or_parts (test v) (list_any test vs) (among test none)).1 in
      ends-told v (f v) (flat_map (λ w. ended_by_rule w.client (f w)) vs) first (ends-cancelled f vs later)

-- the calls that a grant ends
ends-granted : (s new : State) (call : Call) → new.parked ≡ s.parked → AreEnds s.parked ((cancel new call).ended ++ (settled (cancel new call).state).ended)
ends-granted s new call kept =
    let m = cancel new call in
    let among : AreAmong s.parked new.parked = subst (λ ws. AreAmong s.parked ws) (sym kept) (λ test none. none) in
    ends-append s.parked m.ended (settled m.state).ended (ends-cancelled s.parked (cancelled new call) new.parked among)
    (ends-settle s.parked (length m.state.parked) m.state (among-filter s.parked (λ w. is_none (cancelled new call w)) new.parked among))

ends-entered : (s : State) (client : ℕ) (call : Call) (d : Decision State) → d ≡ decide_call s client call → Keeps s d → IsQuiet s → AreEnds s.parked (entered s client call d).ended
ends-entered s client call (Refused rule) is keeps quiet = ends-settle s.parked (length s.parked) s (λ test none. none)
ends-entered s client call Waits is keeps quiet = subst (AreEnds s.parked) (sym (ends_none s client call Waits is quiet refl)) tt
ends-entered s client call (Granted answer new) is keeps quiet = ends-granted s new call keeps.0

-- an end among fewer is one among all
ends-fewer : (ws vs : List Waiting) → AreAmong ws vs → (es : List Completion) → AreEnds vs es → AreEnds ws es
ends-fewer ws vs among [] ends = tt
ends-fewer ws vs among (e ∷ es) ends = (
  ⊎_elim
      (λ (yes : is_end_of ws e ≡ true). yes)
      (λ (no : is_end_of ws e ≡ false). absurd (true≢false (sym ends.0 ∙ among (λ w. w.client == e.client && can_end w.call e.outcome) no)))
      (cases_Bool (is_end_of ws e)),
  ends-fewer ws vs among es ends.1,
)

-- as a property of each element
all-ends : (ws : List Waiting) (es : List Completion) → AreEnds ws es → All (λ e. is_end_of ws e ≡ true) es
all-ends ws [] ends = All-nil (λ e. is_end_of ws e ≡ true)
all-ends ws (e ∷ es) ends = All-cons (λ f. is_end_of ws f ≡ true) e es ends.0 (all-ends ws es ends.1)

pub others_end : (h : History) (e : Event) → All (λ told. is_end_of (run h).parked told ≡ true) (next_step h e).ended
others_end h e =
    let was = run h in
    let s = begun was e.now in
    let rule = expired (at_time was e.now) in
    let fewer : AreAmong was.parked s.parked = among-filter was.parked (λ w. is_none (rule w)) was.parked (λ test none. none) in
    let d = decide_call s e.client e.call in
    let first = (expire (at_time was e.now)).ended in
    let rest = (entered s e.client e.call d).ended in
    all-ends was.parked (first ++ rest)
    (ends-append was.parked first rest (ends-cancelled was.parked rule was.parked (λ test none. none))
    (ends-fewer was.parked s.parked fewer rest (ends-entered s e.client e.call d refl (Keeps-call s e.client e.call) (quiet-begun h e.now))))
