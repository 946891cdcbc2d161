-- The calls, a line for each in three tables: on what a plan doesn't depend, which plans wait, and what a grant keeps.
use Rattle.std.proofs.Common.{◌≡◌, ℕ, Bool, true, false, cond, List, [], ◌∷◌, length, refl, sym, ap, ◌∙◌, Option, Some, None}
use Rattle.std.specs.Prelude.{◌==◌, ◌+◌, if◌then◌else◌, is_some, map, pos, int_le, nat_le, nat_lt, option_and_then, option_map, slice_get}
use Rattle.std.proofs.lemmas.Bool.{true≢false}
use Rattle.ipc_call.specs.declared.settings.Receive.{Receive}
use Rattle.ipc_call.specs.declared.calls.Call.{Call}
use Rattle.ipc_call.specs.declared.calls.Call.TheVariants.{MsgGet, MsgSnd, MsgRcv, SemGet, SemOp, SemTimedOp, GetVal, GetPid, GetNcnt, GetZcnt, GetAll, SetVal, SetAll, ShmGet, ShmAt, ShmDt, ShmRead, ShmWrite, Exit, IpcStat, IpcSet, IpcRmid, Listing, Interrupt, SetCreds, Assume, Begin, Fork, Clone, Name, Exec, Kill, InterruptThread}
use Rattle.ipc_call.specs.declared.calls.Kind.{Kind}
use Rattle.ipc_call.specs.declared.calls.SemOper.{SemOper}
use Rattle.ipc_call.specs.declared.calls.Kind.TheVariants as kinds
use Rattle.ipc_call.specs.declared.settings.Settings.{Settings}
use Rattle.ipc_call.specs.declared.replies.Answer.{Answer}
use Rattle.ipc_call.specs.declared.replies.Answer.TheVariants.{Done, Id, Rows, Status as StatusAnswer}
use Rattle.ipc_call.specs.declared.replies.Waiting.{Waiting}
use Rattle.ipc_call.specs.declared.rules.Rule.TheVariants.{BadId, BadType, ClientInUse, Ended, NoClient, NoOperations, NoProcess, NoSlot, NotAttached, SemOutOfSet, TextTooLong, TooManyAttached, TooManyOperations}
use Rattle.ipc_creds.specs.Credentials.{Credentials}
use Rattle.ipc_perm.specs.Access.{Permission, Resource, SameUser, SetGroups, to_read}
use Rattle.ipc_ids.specs.Table.{Table, next_id, with_object, without_object}
use Rattle.ipc_objects.specs.declared.object.Object.{Object}
use Rattle.msg_queue.specs.declared.messages.Message.{Message}
use Rattle.ipc_model.specs.State.{Caller, Queue, Queues, Segment, SemSet, Sems, Shared, State, caller, creds_at, has_pid, is_running, pid_at, process_at}
use Rattle.ipc_model.specs.Decision.{proceeds}
use Rattle.ipc_model.specs.Plan.{Needs, Passes, Plan, decision, in_order, on_part, ◌⨾◌}
use Rattle.ipc_model.specs.Plan as plans
use Rattle.ipc_model.specs.Gets.{Getting, get, get_found, get_queue, get_segment, get_set, getting_queue, getting_segment, getting_set, new_object, object_of_key, Get}
use Rattle.ipc_model.specs.Messages.{chosen, queue_at, receive_message, send_found, send_message, take_chosen, receive_found, Send}
use Rattle.ipc_model.specs.Semaphores.{set_after_exit, get_all, get_pid, get_value, operate, operated, set_all, set_at, set_value, trial_checks, wanted_by}
use Rattle.ipc_model.specs.Segments.{attach, behind, detach, read_bytes, segment_at, write_bytes}
use Rattle.shm_seg.specs.Attachments.{attachment_at, free_number, shmseg}
use Rattle.sem_set.specs.Trials.{are_in}
use Rattle.sem_undo.specs.Entries.{adj_of}
use Rattle.ipc_objects.specs.Objects.{changed, with_contents}
use Rattle.std.proofs.lemmas.List.{length-set}
use Rattle.ipc_creds.specs.Credentials.{became, executed}
use Rattle.std.specs.List.{find}
use Rattle.ipc_model.specs.Processes.{all_ended, as_process, credentials_of, ended, free_client, process_ended, to_signal, threads_of, with_client, with_creds}
use Rattle.ipc_model.specs.Controls.{is_within, perm_of, removed, status_of, with_new_owner, with_set, with_settings, without_segment, without_set}
use Rattle.ipc_model.specs.Listings.{rows_to}
use Rattle.ipc_model.specs.Decide.{OnQueues, OnSems, OnShared, can_wait, get_waiting, is_negative, is_zero, decide, decide_alive, may_call, part_plan, plan, plan_alive, whole}
use Rattle.ipc_model.specs.Step.{at_time}
use Rattle.ipc_model.proofs.Alike.{blank, blank-found, blank-on, blank-order, proceeds-alike}
use Rattle.ipc_model.proofs.Growing.{Follows-queues, Follows-same, Follows-sems, Follows-shared, Grows, Grows-changed, Grows-gone, Grows-mapped, Grows-new, Grows-same, Keeps, Leads, Leads-same, Succeeds, Succeeds-same}
use Rattle.ipc_model.proofs.Leading.{Leads-attached, Leads-changed, Leads-copies, Leads-detached, Leads-each, Leads-new, Leads-removed, Leads-written}
use Rattle.ipc_model.proofs.Plans.{never-found, never-on, never_waits, proceeds-never, Ends, Ends-decision, Ends-found, Ends-on, Ends-order}
use Rattle.std.specs.FinMap as finite
use Rattle.std.proofs.lemmas.Option.{none-some, same_Some}
use Rattle.shm_seg.specs.declared.attachments.Attachment.{Attachment}
use Rattle.ipc_call.specs.declared.perms.Perm.{Perm}

-- a get: nothing in it waits, where nothing waits in the checks of its kind
module _ {X : Type 0} (t : Table (Object X)) (getting : Getting X) (make : (p : Plan (Table (Object X))) → never_waits p ≡ true → never_waits (in_order getting.to_make p) ≡ true)
    (find : (x : X) (p : Plan (Table (Object X))) → never_waits p ≡ true → never_waits (in_order (getting.to_find x) p) ≡ true) where
  never-get : (who : Caller) (asked : Get) (there : Option (ℕ × Object X)) → never_waits (get_found t who asked getting there) ≡ true
  never-get who asked None = make _ (never-found (next_id t) NoSlot tt _ (λ id. refl))
  never-get who asked (Some there) = find there.1.contents (plans.Grant (Id there.0) t) refl

module _ (queues : Queues) (who other : Caller) where
  send-alike : (id : ℕ) (asked : Send) (queue : Option (Object Queue)) → blank (send_found queues who id asked queue) ≡ blank (send_found queues other id asked queue)
  send-alike id asked queue = blank-found queue BadId tt _ _ (λ queue. refl)

  take-alike : (id : ℕ) (asked : Receive) (queue : Queue) (taken : Option (ℕ × Message)) → blank (on_part (with_contents queues id) (take_chosen who asked queue taken)) ≡ blank (on_part (with_contents queues id) (take_chosen other asked queue taken))
  take-alike id asked queue None = refl
  take-alike id asked queue (Some taken) = refl

never-set : (s : State) (within : Bool) → never_waits (in_order (if within then [] else Needs Resource ∷ []) (plans.Grant Done s)) ≡ true
never-set s true = refl
never-set s false = refl

module _ (s : State) (parked : List Waiting) (clock : ℕ) where
  abbrev later : State
  later = record s { parked = parked; clock = clock }

  -- a plan of the queues, from two states with the same queues
  queues-alike : (p q : Plan Queues) → blank p ≡ blank q → blank (whole later (OnQueues p)) ≡ blank (whole s (OnQueues q))
  queues-alike p q same = blank-on (λ queues. record later { queues = queues }) p ∙ same ∙ sym (blank-on (λ queues. record s { queues = queues }) q)

  sems-alike : (p q : Plan Sems) → blank p ≡ blank q → blank (whole later (OnSems p)) ≡ blank (whole s (OnSems q))
  sems-alike p q same = blank-on (λ sems. record later { sems = sems }) p ∙ same ∙ sym (blank-on (λ sems. record s { sems = sems }) q)

  operate-alike : (client id : ℕ) (ops : List SemOper) → blank (whole later (OnSems (operate s.limits s.sems (caller later client) id ops))) ≡ blank (whole s (OnSems (operate s.limits s.sems (caller s client) id ops)))
  operate-alike client id ops =
      sems-alike (operate s.limits s.sems (caller later client) id ops) (operate s.limits s.sems (caller s client) id ops)
      (ap (λ p. Passes (nat_lt 0 (length ops)) NoOperations tt ⨾ Passes (nat_le (length ops) s.limits.sem_opm) TooManyOperations tt ⨾ p)
      (blank-found (set_at s.sems id) BadId tt _ _ (λ (set : Object SemSet).
      ap (λ p. Needs (Permission set.perm (wanted_by ops)) ⨾ Passes (are_in set.contents.semaphores ops) SemOutOfSet tt ⨾ p)
      (blank-order (trial_checks set.contents.semaphores (adj_of s.sems.undo (process_at s client) id) [] ops) _ _ refl))))

  -- of a call that may wait
  alive-alike : (client : ℕ) (call : Call) → can_wait call ≡ true → blank (plan_alive later client call) ≡ blank (plan_alive s client call)
  unfolding part_plan
  alive-alike client (MsgSnd id mtype text flags) can =
      let asked : Send = record { message = record { mtype = mtype; text = text }; flags = flags } in
      queues-alike (send_message s.limits s.queues (caller later client) id asked) (send_message s.limits s.queues (caller s client) id asked)
      (ap (λ p. Passes (int_le (pos 1) mtype) BadType tt ⨾ Passes (nat_le (length text) s.limits.msg_max) TextTooLong tt ⨾ p)
      (send-alike s.queues (caller later client) (caller s client) id asked (queue_at s.queues id)))
  alive-alike client (MsgRcv id size msgtyp flags) can =
      let asked : Receive = record { size = size; msgtyp = msgtyp; flags = flags } in
      queues-alike (receive_message s.queues (caller later client) id asked) (receive_message s.queues (caller s client) id asked)
      (blank-found (queue_at s.queues id) BadId tt _ _ (λ (queue : Object Queue).
      ap (λ p. Needs (Permission queue.perm to_read) ⨾ p)
      (take-alike s.queues (caller later client) (caller s client) id asked queue.contents (chosen queue.contents.messages asked))))
  alive-alike client (SemOp id ops) can = operate-alike client id ops
  alive-alike client (SemTimedOp id ops timeout) can = operate-alike client id ops
  alive-alike client call can = absurd (true≢false (sym can))

  pub plan-alike : (client : ℕ) (call : Call) → can_wait call ≡ true → blank (plan later client call) ≡ blank (plan s client call)
  plan-alike client call can = ap (λ p. Passes (may_call s client call) Ended tt ⨾ p) (alive-alike client call can)

-- only a call of a kind that may wait is made to wait
never-sems : (s : State) (p : Plan Sems) → never_waits p ≡ true → never_waits (whole s (OnSems p)) ≡ true
never-sems s p never = never-on (λ sems. record s { sems = sems }) p never

never-shared : (s : State) (p : Plan Shared) → never_waits p ≡ true → never_waits (whole s (OnShared p)) ≡ true
never-shared s p never = never-on (λ shared. record s { shared = shared }) p never

never-groups : (groups : Option (List ℕ)) (new : State) → never_waits (in_order (if is_some groups then Needs SetGroups ∷ [] else []) (plans.Grant Done new)) ≡ true
never-groups None new = refl
never-groups (Some gs) new = refl

never-needs : (cs : List Credentials) (p : Plan State) → never_waits p ≡ true → never_waits (in_order (map (λ c. Needs (SameUser c.euid)) cs) p) ≡ true
never-needs [] p never = never
never-needs (c ∷ cs) p never = never-needs cs p never

never-signal : (own : Bool) (cs : List Credentials) (new : State) → never_waits (in_order (if own then [] else map (λ c. Needs (SameUser c.euid)) cs) (plans.Grant Done new)) ≡ true
never-signal true cs new = refl
never-signal false cs new = never-needs cs (plans.Grant Done new) refl

never-one : (own : Bool) (c : Credentials) (new : State) → never_waits (in_order (if own then [] else Needs (SameUser c.euid) ∷ []) (plans.Grant Done new)) ≡ true
never-one true c new = refl
never-one false c new = refl

never-plan : (s : State) (client : ℕ) (call : Call) → can_wait call ≡ false → never_waits (plan s client call) ≡ true
unfolding part_plan
never-plan s client (MsgGet key flags) never =
    let asked : Get = record { key = key; flags = flags } in
    let who = caller s client in
    never-on (λ queues. record s { queues = queues }) (get_queue s.limits s.queues who asked)
    (never-get s.queues (getting_queue s.limits) (λ p waits. waits) (λ x p waits. waits) who asked (object_of_key s.queues key))
never-plan s client (MsgSnd id mtype text flags) never = absurd (true≢false never)
never-plan s client (MsgRcv id size msgtyp flags) never = absurd (true≢false never)
never-plan s client (SemGet key nsems flags) never =
    let asked : Get = record { key = key; flags = flags } in
    let who = caller s client in
    let sets = s.sems.sets in
    never-on (λ sems. record s { sems = sems }) (get_set s.limits s.sems who asked nsems)
    (never-on (λ sets. record s.sems { sets = sets }) (get sets who asked (getting_set nsems))
    (never-get sets (getting_set nsems) (λ p waits. waits) (λ x p waits. waits) who asked (object_of_key sets key)))
never-plan s client (SemOp id ops) never = absurd (true≢false never)
never-plan s client (SemTimedOp id ops timeout) never = absurd (true≢false never)
never-plan s client (GetNcnt id num) never = never-sems s (get_waiting s id num (is_negative num)) (never-found (set_at s.sems id) BadId tt _ (λ set. refl))
never-plan s client (GetZcnt id num) never = never-sems s (get_waiting s id num (is_zero num)) (never-found (set_at s.sems id) BadId tt _ (λ set. refl))
never-plan s client Exit never = refl
never-plan s client (GetVal id num) never = never-sems s (get_value s.sems id num) (never-found (set_at s.sems id) BadId tt _ (λ set. refl))
never-plan s client (GetPid id num) never = never-sems s (get_pid s.sems id num) (never-found (set_at s.sems id) BadId tt _ (λ set. refl))
never-plan s client (GetAll id) never = never-sems s (get_all s.sems id) (never-found (set_at s.sems id) BadId tt _ (λ set. refl))
never-plan s client (SetVal id num value) never = never-sems s (set_value s.sems (caller s client) id num value) (never-found (set_at s.sems id) BadId tt _ (λ set. refl))
never-plan s client (SetAll id values) never = never-sems s (set_all s.sems (caller s client) id values) (never-found (set_at s.sems id) BadId tt _ (λ set. refl))
never-plan s client (ShmGet key size flags) never =
    let asked : Get = record { key = key; flags = flags } in
    let who = caller s client in
    let segments = s.shared.segments in
    let getting = getting_segment s.limits (pid_at s client) size in
    never-shared s (get_segment s.limits s.shared who asked size)
    (never-on (λ segments. record s.shared { segments = segments }) (get segments who asked getting)
    (never-get segments getting (λ p waits. waits) (λ x p waits. waits) who asked (object_of_key segments key)))
never-plan s client (ShmAt id flags) never =
    never-shared s (attach s.shared (caller s client) id flags) (never-found (segment_at s.shared id) BadId tt _ (λ segment. never-found (free_number s.shared.attached (process_at s client)) TooManyAttached tt _ (λ number. refl)))
never-plan s client (ShmDt att) never = never-shared s (detach s.shared (caller s client) att) (never-found (attachment_at s.shared.attached (process_at s client) att) NotAttached tt _ (λ a. refl))
never-plan s client (ShmRead att offset len) never = never-shared s (read_bytes s.shared (caller s client) att offset len) (never-found (behind s.shared (process_at s client) att) NotAttached tt _ (λ there. refl))
never-plan s client (ShmWrite att offset bytes) never = never-shared s (write_bytes s.shared (caller s client) att offset bytes) (never-found (behind s.shared (process_at s client) att) NotAttached tt _ (λ there. refl))
never-plan s client (IpcStat kind id) never = never-found (status_of s kind id) BadId tt _ (λ told. refl)
never-plan s client (IpcSet kind id uid gid mode qbytes) never =
    let set : Settings = record { uid = uid; gid = gid; mode = mode; qbytes = qbytes } in
    never-found (perm_of s kind id) BadId tt _ (λ perm. never-set (with_set s kind id set) (is_within s qbytes))
never-plan s client (IpcRmid kind id) never = never-found (perm_of s kind id) BadId tt _ (λ perm. refl)
never-plan s client (Listing kind) never = refl
never-plan s client (Assume creds) never = refl
never-plan s client (Begin p creds) never = never-found (free_client s client) ClientInUse tt _ (λ t. refl)
never-plan s client (Fork child p) never = never-found (free_client s child) ClientInUse tt _ (λ t. refl)
never-plan s client (Clone child) never = never-found (free_client s child) ClientInUse tt _ (λ t. refl)
never-plan s client (Name p) never = refl
never-plan s client Exec never = refl
never-plan s client (SetCreds euid egid groups) never = never-groups groups _
never-plan s client (Interrupt p) never = never-signal (p == pid_at s client) (threads_of s p) s
never-plan s client (InterruptThread target) never = never-found (slice_get s.threads target) NoClient tt _ (λ t. never-one (t.pid == pid_at s client) (creds_at s target) s)
never-plan s client (Kill p) never = never-found (find (has_pid p) s.threads) NoProcess tt _ (λ t. never-signal (p == pid_at s client) (threads_of s p) _)

can-wait : (b : Bool) (call : Call) (c : Credentials) (p : Plan State) → (can_wait call ≡ false → never_waits p ≡ true) → can_wait call ≡ b → proceeds (decision c p) ≡ false → b ≡ true
can-wait true call c p never is waits = refl
can-wait false call c p never is waits = absurd (true≢false (sym (proceeds-never c p (never is)) ∙ waits))

pub only_parkable_alive : (s : State) (client : ℕ) (call : Call) → proceeds (decide_alive s client call) ≡ false → can_wait call ≡ true
only_parkable_alive s client call waits = can-wait (can_wait call) call (creds_at s client) (plan_alive s client call) (never-plan s client call) refl waits

pub only_parkable : (s : State) (client : ℕ) (call : Call) → proceeds (decide s client call) ≡ false → can_wait call ≡ true
only_parkable s client call waits = can-wait (can_wait call) call (creds_at s client) (plan s client call) (never-plan s client call) refl waits

-- a call that waits on some list, at some time, waits on any list and at each time
module _ (s t : State) (client : ℕ) (call : Call) (creds : creds_at t client ≡ creds_at s client) (alike : can_wait call ≡ true → blank (plan t client call) ≡ blank (plan s client call)) where
  either : (b : Bool) → can_wait call ≡ b → proceeds (decide t client call) ≡ proceeds (decide s client call)
  either true can = ap (λ c. proceeds (decision c (plan t client call))) creds ∙ proceeds-alike (creds_at s client) (plan t client call) (plan s client call) (alike can)
  either false can = proceeds-never (creds_at t client) (plan t client call) (never-plan t client call can) ∙ sym (proceeds-never (creds_at s client) (plan s client call) (never-plan s client call can))

pub parked_alike : (s : State) (parked : List Waiting) (client : ℕ) (call : Call) → proceeds (decide (record s { parked = parked }) client call) ≡ proceeds (decide s client call)
parked_alike s parked client call = either s (record s { parked = parked }) client call refl (plan-alike s parked s.clock client call) (can_wait call) refl

pub clock_alike : (s : State) (now client : ℕ) (call : Call) → proceeds (decide (at_time s now) client call) ≡ proceeds (decide s client call)
clock_alike s now client call = either s (at_time s now) client call refl (plan-alike s s.parked (at_time s now).clock client call) (can_wait call) refl

module _ {X : Type 0} where
  -- a get, of any kind: what holds of the table as it is, and with the new object, holds of what is left
  module _ (t : Table (Object X)) (who : Caller) (asked : Get) (getting : Getting X) (P : Table (Object X) → Type 0) (same : P t)
      (new : (id : ℕ) → next_id t ≡ Some id → P (with_object t id (new_object who asked.key asked.flags getting.new))) where
    pub Ends-getting : (there : Option (ℕ × Object X)) → Ends (λ answer u. P u) (get_found t who asked getting there)
    Ends-getting None = Ends-order (λ answer u. P u) getting.to_make _ (Ends-found (λ answer u. P u) (next_id t) NoSlot tt _ new)
    Ends-getting (Some there) = Ends-order (λ answer u. P u) (getting.to_find there.1.contents) (plans.Grant (Id there.0) t) same

  Ends-get : (t : Table (Object X)) (who : Caller) (asked : Get) (getting : Getting X) (there : Option (ℕ × Object X)) → Ends (λ answer u. Grows t u) (get_found t who asked getting there)
  Ends-get t who asked getting there =
      Ends-getting t who asked getting (λ u. Grows t u) (Grows-same t) (λ id is. Grows-new t id (new_object who asked.key asked.flags getting.new) is) there

-- the calls on messages
Ends-send : (queues : Queues) (who : Caller) (id : ℕ) (asked : Send) (queue : Option (Object Queue)) → Ends (λ answer u. Grows queues u) (send_found queues who id asked queue)
Ends-send queues who id asked None = tt
Ends-send queues who id asked (Some queue) = Grows-changed queues id _

Ends-take : (queues : Queues) (who : Caller) (id : ℕ) (asked : Receive) (queue : Queue) (taken : Option (ℕ × Message)) → Ends (λ answer u. Grows queues u) (on_part (with_contents queues id) (take_chosen who asked queue taken))
Ends-take queues who id asked queue None = tt
Ends-take queues who id asked queue (Some taken) = Grows-changed queues id _

Ends-receive : (queues : Queues) (who : Caller) (id : ℕ) (asked : Receive) (queue : Option (Object Queue)) → Ends (λ answer u. Grows queues u) (receive_found queues who id asked queue)
Ends-receive queues who id asked None = tt
Ends-receive queues who id asked (Some queue) = Ends-take queues who id asked queue.contents (chosen queue.contents.messages asked)

-- an object of a table has these permissions
with_perm_of : {X : Type 0} (o : Option (Object X)) (perm : Perm) → option_map (λ (object : Object X). object.perm) o ≡ Some perm → (object : Object X) × (o ≡ Some object)
with_perm_of None perm is = absurd (none-some perm is)
with_perm_of (Some object) perm is = (object, refl)

Ends-removed : (s : State) (kind : Kind) (id : ℕ) (perm : Perm) → perm_of s kind id ≡ Some perm → Succeeds s Done (removed s kind id)
Ends-removed s kinds.Queue id perm is =
    let there = with_perm_of (finite.get s.queues.objects id) perm is in
    (refl, Follows-queues s (without_object s.queues id) (Grows-gone s.queues id there.0 there.1))
Ends-removed s kinds.Sems id perm is =
    let there = with_perm_of (finite.get s.sems.sets.objects id) perm is in
    (refl, Follows-sems s (without_set s.sems id) (Grows-gone s.sems.sets id there.0 there.1))
Ends-removed s kinds.Segment id perm is =
    let there = with_perm_of (segment_at s.shared id) perm is in
    (refl, Follows-shared s (without_segment s.shared id) (Leads-removed s.shared id there.0 there.1))

Succeeds-set : (s : State) (kind : Kind) (id : ℕ) (new : Settings) → Succeeds s Done (with_set s kind id new)
Succeeds-set s kinds.Queue id new = (refl, Follows-queues s (changed s.queues id (with_settings s.clock new)) (Grows-changed s.queues id _))
Succeeds-set s kinds.Sems id new = (refl, Follows-sems s (record s.sems { sets = changed s.sems.sets id (with_new_owner s.clock new) }) (Grows-changed s.sems.sets id _))
Succeeds-set s kinds.Segment id new = (refl, Follows-shared s (record s.shared { segments = changed s.shared.segments id (with_new_owner s.clock new) }) (Leads-changed s.shared id (with_new_owner s.clock new) (λ x is. refl)))

Ends-set : (s : State) (kind : Kind) (id : ℕ) (new : Settings) (within : Bool) → Ends (Succeeds s) (in_order (if within then [] else Needs Resource ∷ []) (plans.Grant Done (with_set s kind id new)))
Ends-set s kind id new true = Succeeds-set s kind id new
Ends-set s kind id new false = Succeeds-set s kind id new

-- the plan of a part that keeps its part
module _ {X : Type 0} (s : State) (put : X → State) (P : X → Type 0) (keeps : (x : X) → P x → Succeeds s Done (put x)) where
  kept : (p : Plan X) → Ends (λ answer x. P x) p → Ends (λ answer x. Succeeds s answer (put x)) p
  kept (check ⨾ rest) ends = kept rest ends
  kept (plans.Refuse rule plain) ends = tt
  kept (plans.Grant answer new) ends = keeps new ends

  Ends-part : (p : Plan X) → Ends (λ answer x. P x) p → Ends (Succeeds s) (on_part put p)
  Ends-part p ends = Ends-on put (Succeeds s) p (kept p ends)

Ends-queues : (s : State) (p : Plan Queues) → Ends (λ answer u. Grows s.queues u) p → Ends (Succeeds s) (whole s (OnQueues p))
Ends-queues s p ends = Ends-part s (λ queues. record s { queues = queues }) (λ u. Grows s.queues u) (λ u grows. (refl, Follows-queues s u grows)) p ends

Ends-sems : (s : State) (p : Plan Sems) → Ends (λ answer u. Grows s.sems.sets u.sets) p → Ends (Succeeds s) (whole s (OnSems p))
Ends-sems s p ends = Ends-part s (λ sems. record s { sems = sems }) (λ u. Grows s.sems.sets u.sets) (λ u grows. (refl, Follows-sems s u grows)) p ends

Ends-shared : (s : State) (p : Plan Shared) → Ends (λ answer u. Leads s.shared u) p → Ends (Succeeds s) (whole s (OnShared p))
Ends-shared s p ends = Ends-part s (λ shared. record s { shared = shared }) (λ u. Leads s.shared u) (λ u leads. (refl, Follows-shared s u leads)) p ends

-- the segment behind an attachment is there
pub behind-there : (a : Shared) (client number : ℕ) (of : Attachment) (segment : Object Segment) → behind a client number ≡ Some (of, segment) → segment_at a of.segment ≡ Some segment
behind-there a client number of segment is = by (attachment_at a.attached client number) is
  where
    there : (x : Attachment) (o : Option (Object Segment)) → segment_at a x.segment ≡ o → option_map {U = Attachment × Object Segment} (λ segment. (x, segment)) o ≡ Some (of, segment) → segment_at a of.segment ≡ Some segment
    there x None at is = absurd (none-some (of, segment) is)
    there x (Some y) at is =
        let same = same_Some (x, y) (of, segment) is in
        ap (λ (p : Attachment × Object Segment). segment_at a p.0.segment) (sym same) ∙ at ∙ ap (λ (p : Attachment × Object Segment). Some p.1) same

    by : (o : Option Attachment) → option_and_then (λ x. option_map {U = Attachment × Object Segment} (λ segment. (x, segment)) (segment_at a x.segment)) o ≡ Some (of, segment) → segment_at a of.segment ≡ Some segment
    by None is = absurd (none-some (of, segment) is)
    by (Some x) is = there x (segment_at a x.segment) refl is

Ends-operate : (s : State) (client id : ℕ) (ops : List SemOper) → Ends (Succeeds s) (whole s (OnSems (operate s.limits s.sems (caller s client) id ops)))
Ends-operate s client id ops =
    let who = caller s client in
    Ends-sems s (operate s.limits s.sems who id ops) (Ends-found _ (set_at s.sems id) BadId tt _ (λ set is.
    Ends-order (λ answer u. Grows s.sems.sets u.sets) (trial_checks set.contents.semaphores (adj_of s.sems.undo (process_at s client) id) [] ops) (plans.Grant Done (operated s.sems who id ops set.contents)) (Grows-changed s.sems.sets id _)))

-- a client begins, as a thread of this process or of a new one, and the segments follow
Succeeds-begun : (s : State) (child process p next : ℕ) (d : Credentials) (shared : Shared) → Leads s.shared shared → Succeeds s Done (record (with_client s child process p d) { next = next; shared = shared })
Succeeds-begun s child process p next d shared leads = (refl, record { queues = Grows-same s.queues; sets = Grows-same s.sems.sets; shared = leads; clients = length-set s.clients child d; limits = refl })

-- a thread ends, or a process
Succeeds-exit : (s : State) (client : ℕ) (running : Bool) → Succeeds s Done (cond running (ended s client) (process_ended (ended s client) (caller s client)))
Succeeds-exit s client true = (refl, Follows-same s (ended s client) refl refl refl refl refl)
Succeeds-exit s client false =
    (refl, record { queues = Grows-same s.queues; sets = Grows-mapped (set_after_exit s.sems (caller s client)) s.sems.sets; shared = Leads-each shmseg 0 (caller s client) s.shared; clients = refl; limits = refl })

-- each call
Ends-plan : (s : State) (client : ℕ) (call : Call) → Ends (Succeeds s) (plan s client call)
unfolding part_plan
Ends-plan s client (MsgGet key flags) =
    let asked : Get = record { key = key; flags = flags } in
    Ends-queues s (get_queue s.limits s.queues (caller s client) asked) (Ends-get s.queues (caller s client) asked (getting_queue s.limits) (object_of_key s.queues key))
Ends-plan s client (MsgSnd id mtype text flags) =
    let asked : Send = record { message = record { mtype = mtype; text = text }; flags = flags } in
    Ends-queues s (send_message s.limits s.queues (caller s client) id asked) (Ends-send s.queues (caller s client) id asked (queue_at s.queues id))
Ends-plan s client (MsgRcv id size msgtyp flags) =
    let asked : Receive = record { size = size; msgtyp = msgtyp; flags = flags } in
    Ends-queues s (receive_message s.queues (caller s client) id asked) (Ends-receive s.queues (caller s client) id asked (queue_at s.queues id))
Ends-plan s client (SemGet key nsems flags) =
    let asked : Get = record { key = key; flags = flags } in
    let who = caller s client in
    let P : Answer → Sems → Type 0 = λ answer u. Grows s.sems.sets u.sets in
    Ends-sems s (get_set s.limits s.sems who asked nsems)
    (Ends-on (λ sets. record s.sems { sets = sets }) P (get s.sems.sets who asked (getting_set nsems)) (Ends-get s.sems.sets who asked (getting_set nsems) (object_of_key s.sems.sets key)))
Ends-plan s client (SemOp id ops) = Ends-operate s client id ops
Ends-plan s client (SemTimedOp id ops timeout) = Ends-operate s client id ops
Ends-plan s client (GetNcnt id num) = Ends-sems s (get_waiting s id num (is_negative num)) (Ends-found _ (set_at s.sems id) BadId tt _ (λ set is. Grows-same s.sems.sets))
Ends-plan s client (GetZcnt id num) = Ends-sems s (get_waiting s id num (is_zero num)) (Ends-found _ (set_at s.sems id) BadId tt _ (λ set is. Grows-same s.sems.sets))
Ends-plan s client (Assume creds) = (refl, Follows-same s _ refl refl refl (length-set s.clients client (credentials_of creds)) refl)
Ends-plan s client (Begin p creds) = Ends-found (Succeeds s) (free_client s client) ClientInUse tt _ (λ t is. Succeeds-begun s client s.next p (s.next + 1) (credentials_of creds) s.shared (Leads-same s.shared))
Ends-plan s client (Fork child p) = Ends-found (Succeeds s) (free_client s child) ClientInUse tt _ (λ t is. Succeeds-begun s child s.next p (s.next + 1) (creds_at s client) _ (Leads-copies shmseg 0 (caller s client) s.next s.shared))
Ends-plan s client (Clone child) = Ends-found (Succeeds s) (free_client s child) ClientInUse tt _ (λ t is. Succeeds-begun s child (process_at s client) (pid_at s client) s.next (creds_at s client) s.shared (Leads-same s.shared))
Ends-plan s client (Name p) = (refl, Follows-same s _ refl refl refl refl refl)
Ends-plan s client Exec = (refl, record { queues = Grows-same s.queues; sets = Grows-same s.sems.sets; shared = Leads-each shmseg 0 (caller s client) s.shared; clients = length-set s.clients client (executed (creds_at s client)); limits = refl })
Ends-plan s client Exit = Succeeds-exit s client (is_running (ended s client) (process_at s client))
Ends-plan s client (GetVal id num) = Ends-sems s (get_value s.sems id num) (Ends-found _ (set_at s.sems id) BadId tt _ (λ set is. Grows-same s.sems.sets))
Ends-plan s client (GetPid id num) = Ends-sems s (get_pid s.sems id num) (Ends-found _ (set_at s.sems id) BadId tt _ (λ set is. Grows-same s.sems.sets))
Ends-plan s client (GetAll id) = Ends-sems s (get_all s.sems id) (Ends-found _ (set_at s.sems id) BadId tt _ (λ set is. Grows-same s.sems.sets))
Ends-plan s client (SetVal id num value) = Ends-sems s (set_value s.sems (caller s client) id num value) (Ends-found _ (set_at s.sems id) BadId tt _ (λ set is. Grows-changed s.sems.sets id _))
Ends-plan s client (SetAll id values) = Ends-sems s (set_all s.sems (caller s client) id values) (Ends-found _ (set_at s.sems id) BadId tt _ (λ set is. Grows-changed s.sems.sets id _))
Ends-plan s client (ShmGet key size flags) =
    let asked : Get = record { key = key; flags = flags } in
    let who = caller s client in
    let a = s.shared in
    let put : Table (Object Segment) → Shared = λ segments. record a { segments = segments } in
    let getting = getting_segment s.limits (pid_at s client) size in
    Ends-shared s (get_segment s.limits a who asked size)
    (Ends-on put (λ answer u. Leads a u) (get a.segments who asked getting)
    (Ends-getting a.segments who asked getting (λ t. Leads a (put t)) (Leads-same a) (λ id is. Leads-new a id (new_object who asked.key asked.flags getting.new) refl is) (object_of_key a.segments key)))
Ends-plan s client (ShmAt id flags) =
    let who = caller s client in
    Ends-shared s (attach s.shared who id flags) (Ends-found _ (segment_at s.shared id) BadId tt _ (λ segment there. Ends-found _ (free_number s.shared.attached (process_at s client)) TooManyAttached tt _ (λ number free. Leads-attached s.shared who id flags number segment there free)))
Ends-plan s client (ShmDt att) =
    let who = caller s client in
    Ends-shared s (detach s.shared who att) (Ends-found _ (attachment_at s.shared.attached (process_at s client) att) NotAttached tt _ (λ a there. Leads-detached s.shared who att a there))
Ends-plan s client (ShmRead att offset len) = Ends-shared s (read_bytes s.shared (caller s client) att offset len) (Ends-found _ (behind s.shared (process_at s client) att) NotAttached tt _ (λ there is. Leads-same s.shared))
Ends-plan s client (ShmWrite att offset bytes) =
    Ends-shared s (write_bytes s.shared (caller s client) att offset bytes) (Ends-found _ (behind s.shared (process_at s client) att) NotAttached tt _ (λ there is. Leads-written s.shared there.0.segment there.1 offset bytes (behind-there s.shared (process_at s client) att there.0 there.1 is)))
Ends-plan s client (IpcStat kind id) = Ends-found (Succeeds s) (status_of s kind id) BadId tt _ (λ told is. Succeeds-same s (StatusAnswer told.1))
Ends-plan s client (IpcSet kind id uid gid mode qbytes) =
    let new : Settings = record { uid = uid; gid = gid; mode = mode; qbytes = qbytes } in
    Ends-found (Succeeds s) (perm_of s kind id) BadId tt _ (λ perm is. Ends-set s kind id new (is_within s qbytes))
Ends-plan s client (IpcRmid kind id) = Ends-found (Succeeds s) (perm_of s kind id) BadId tt _ (λ perm is. Ends-removed s kind id perm is)
Ends-plan s client (Listing kind) = Succeeds-same s (Rows (rows_to s (creds_at s client) kind))
Ends-plan s client (SetCreds euid egid groups) =
    let new = with_creds s client (became euid egid groups (creds_at s client)) in
    Ends-order (Succeeds s) (if is_some groups then Needs SetGroups ∷ [] else []) (plans.Grant Done new)
    (refl, Follows-same s new refl refl refl (length-set s.clients client (became euid egid groups (creds_at s client))) refl)
Ends-plan s client (Interrupt p) = Ends-order (Succeeds s) (to_signal s (caller s client) p) (plans.Grant Done s) (Succeeds-same s Done)
Ends-plan s client (InterruptThread target) = Ends-found (Succeeds s) (slice_get s.threads target) NoClient tt _ (λ t is.
    Ends-order (Succeeds s) (if t.pid == pid_at s client then [] else Needs (SameUser (creds_at s target).euid) ∷ []) (plans.Grant Done s) (Succeeds-same s Done))
Ends-plan s client (Kill p) = Ends-found (Succeeds s) (find (has_pid p) s.threads) NoProcess tt _ (λ t is.
    let who : Caller = as_process (caller s client) t in
    Ends-order (Succeeds s) (to_signal s (caller s client) p) (plans.Grant Done (process_ended (all_ended s t.process) who))
    (refl, record { queues = Grows-same s.queues; sets = Grows-mapped (set_after_exit s.sems who) s.sems.sets; shared = Leads-each shmseg 0 who s.shared; clients = refl; limits = refl }))

pub Keeps-decide : (s : State) (client : ℕ) (call : Call) → Keeps s (decide s client call)
Keeps-decide s client call = Ends-decision (creds_at s client) (Succeeds s) (plan s client call) (Ends-plan s client call)
