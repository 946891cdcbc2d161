-- What a call asks for is what its plan needs.
use Rattle.std.proofs.Common.{◌≡◌, ℕ, ℤ, Bool, List, [], ◌∷◌, refl, subst, sym, ap, ◌∙◌, Option, Some, None}
use Rattle.std.specs.Prelude.{IfSome, option_map, unwrap_or}
use Rattle.std.specs.FinMap as finite
use Rattle.ipc_call.specs.declared.calls.Call.{Call}
use Rattle.ipc_call.specs.declared.calls.Call.TheVariants.{MsgGet, MsgSnd, MsgRcv, SemGet, SemOp, SemTimedOp, GetVal, GetPid, GetNcnt, GetZcnt, GetAll, SetVal, SetAll, ShmGet, ShmAt, ShmDt, ShmRead, ShmWrite, IpcStat, IpcSet, IpcRmid, Listing, Interrupt, InterruptThread, Kill, SetCreds, Assume, Begin, Fork, Clone, Name, Exec, Exit}
use Rattle.ipc_call.specs.declared.calls.Kind.{Kind}
use Rattle.ipc_call.specs.declared.calls.Kind.TheVariants as kinds
use Rattle.ipc_call.specs.declared.calls.SemOper.{SemOper}
use Rattle.ipc_call.specs.declared.perms.Perm.{Perm}
use Rattle.ipc_call.specs.declared.limits.Limits.{Limits}
use Rattle.ipc_call.specs.declared.replies.Status.{Status}
use Rattle.ipc_call.specs.declared.rules.Rule.{Rule}
use Rattle.ipc_call.specs.declared.rules.Rule.TheVariants.{BadId, NoSlot, TooManyAttached}
use Rattle.ipc_call.specs.declared.settings.Get.{Get}
use Rattle.ipc_perm.specs.Access.{Need, Permission, asked_of, to_alter, to_read}
use Rattle.ipc_perm.specs.declared.access.Want.{Want}
use Rattle.ipc_ids.specs.Table.{Table, next_id}
use Rattle.ipc_objects.specs.declared.object.Object.{Object}
use Rattle.sem_set.specs.declared.set.Semaphore.{Semaphore}
use Rattle.shm_seg.specs.Attachments.{free_number}
use Rattle.ipc_model.specs.State.{Caller, Queue, Queues, Segment, SemSet, Sems, Shared, State, caller, pid_at, process_at}
use Rattle.ipc_model.specs.Plan.{IsPlain, Plan, found, in_order, needs_in, on_part}
use Rattle.ipc_model.specs.Controls.{perm_of, stat_object, status_of}
use Rattle.ipc_model.specs.Decide.{get_waiting, is_negative, is_zero, needs, part_plan}
use Rattle.ipc_model.specs.Gets.{Getting, get, get_found, get_queue, get_segment, get_set, getting_queue, getting_segment, getting_set, make_object, new_object, object_of_key}
use Rattle.ipc_model.specs.Segments.{attach, segment_at, wanted_to_attach}
use Rattle.ipc_model.specs.Semaphores.{get_all, get_pid, get_value, look, set_all, set_at, set_value, wanted_by}
use Rattle.ipc_model.proofs.Needs.{needs_for, operator-needs, receiver-needs, sender-needs, timed-needs}
use Rattle.ipc_model.proofs.Plans.{needs-on}
use Rattle.ipc_namespace.specs.Looking.{key_in}
use Rattle.call_reasons.specs.declared.asked.Asked.{Asked}
use Rattle.call_reasons.specs.declared.cases.NamedObject.{NamedObject}
use Rattle.call_reasons.specs.Asked.{NeedsControl, asked_in, controlled_in, named, permission_of}

-- what is named by an identifier, and by a key

abbrev with_id : Kind → ℕ → Option Perm → Option NamedObject
with_id kind id o = option_map (λ perm. record { kind = kind; id = id; perm = perm }) o

abbrev with_key : Kind → Option (ℕ × Perm) → Option NamedObject
with_key kind o = option_map (λ found. record { kind = kind; id = found.0; perm = found.1 }) o

for-id : (want : Want) (kind : Kind) (id : ℕ) (o : Option Perm) → needs_for want o ≡ permission_of want (with_id kind id o)
for-id want kind id None = refl
for-id want kind id (Some perm) = refl

-- what is looked for needs nothing, or this permission

no-needs : {X Y : Type 0} (o : Option X) (rule : Rule) (plain : IsPlain rule) (rest : X → Plan Y) → ((x : X) → needs_in (rest x) ≡ []) → needs_in (found o rule plain rest) ≡ []
no-needs None rule plain rest h = refl
no-needs (Some x) rule plain rest h = h x

found-needs : {X Y : Type 0} (o : Option X) (rule : Rule) (plain : IsPlain rule) (rest : X → Plan Y) (want : Want) (perm : X → Perm) → ((x : X) → needs_in (rest x) ≡ Permission (perm x) want ∷ []) → needs_in (found o rule plain rest) ≡ needs_for want (option_map perm o)
found-needs None rule plain rest want perm h = refl
found-needs (Some x) rule plain rest want perm h = h x

-- gets

module _ {X : Type 0} (kind : Kind) (t : Table (Object X)) (who : Caller) (asked : Get) (getting : Getting X) (at : Option (ℕ × Object X)) where
  abbrev ByKey : Type 0
  ByKey = needs_in (get_found t who asked getting at) ≡ permission_of (asked_of asked.flags) (with_key kind (option_map (λ found. (found.0, found.1.perm)) at))

made-needs : {X : Type 0} (t : Table (Object X)) (object : Object X) → needs_in (make_object t object) ≡ []
made-needs t object = no-needs (next_id t) NoSlot _ _ (λ id. refl)

queue-needs : (queues : Queues) (who : Caller) (asked : Get) (limits : Limits) (at : Option (ℕ × Object Queue)) → ByKey kinds.Queue queues who asked (getting_queue limits) at
queue-needs queues who asked limits None = made-needs queues _
queue-needs queues who asked limits (Some there) = refl

set-needs : (sets : Table (Object SemSet)) (who : Caller) (asked : Get) (nsems : ℕ) (at : Option (ℕ × Object SemSet)) → ByKey kinds.Sems sets who asked (getting_set nsems) at
set-needs sets who asked nsems None = made-needs sets _
set-needs sets who asked nsems (Some there) = refl

segment-needs : (segments : Table (Object Segment)) (who : Caller) (asked : Get) (limits : Limits) (size : ℕ) (at : Option (ℕ × Object Segment)) → ByKey kinds.Segment segments who asked (getting_segment limits who.pid size) at
segment-needs segments who asked limits size None = made-needs segments _
segment-needs segments who asked limits size (Some there) = refl

-- IPC_STAT

perm-told : {X Y : Type 0} (perm : X → Perm) (status : X → Y) (o : Option X) → option_map {T = Perm × Y} (λ told. told.0) (option_map (λ x. (perm x, status x)) o) ≡ option_map perm o
perm-told perm status None = refl
perm-told perm status (Some x) = refl

stat-perm : (s : State) (kind : Kind) (id : ℕ) → option_map {T = Perm × Status} (λ told. told.0) (status_of s kind id) ≡ perm_of s kind id
stat-perm s kinds.Queue id = perm-told (λ o. o.perm) _ (finite.get s.queues.objects id)
stat-perm s kinds.Sems id = perm-told (λ o. o.perm) _ (finite.get s.sems.sets.objects id)
stat-perm s kinds.Segment id = perm-told (λ o. o.perm) _ (segment_at s.shared id)

-- each call

module _ (s : State) (client : ℕ) where
  abbrev pub IsNeeded : Call → Option Asked → Type 0
  IsNeeded call None = Unit {0}
  IsNeeded call (Some asked) = needs s client call ≡ permission_of asked.want (named s asked.target)

  sems-needs : (p : Plan Sems) (want : Want) (id : ℕ) → needs_in p ≡ needs_for want (option_map (λ o. o.perm) (set_at s.sems id)) → needs_in (on_part (λ sems. record s { sems = sems }) p) ≡ permission_of want (with_id kinds.Sems id (perm_of s kinds.Sems id))
  sems-needs p want id h = needs-on (λ sems. record s { sems = sems }) p ∙ h ∙ for-id want kinds.Sems id (perm_of s kinds.Sems id)

  looked : (id num : ℕ) (tell : List Semaphore → ℕ) → needs_in (on_part (λ sems. record s { sems = sems }) (look s.sems id num tell)) ≡ permission_of to_read (with_id kinds.Sems id (perm_of s kinds.Sems id))
  looked id num tell = sems-needs (look s.sems id num tell) to_read id (found-needs (set_at s.sems id) BadId _ _ to_read (λ o. o.perm) (λ set. refl))

  pub needed : (call : Call) → IsNeeded call (asked_in call)
  unfolding part_plan
  needed (MsgGet key flags) =
      let asked : Get = record { key = key; flags = flags } in
      needs-on (λ queues. record s { queues = queues }) (get_queue s.limits s.queues (caller s client) asked) ∙ queue-needs s.queues (caller s client) asked s.limits (object_of_key s.queues key)
  needed (MsgSnd id mtype text flags) = sender-needs s client id mtype text flags ∙ for-id to_alter kinds.Queue id (perm_of s kinds.Queue id)
  needed (MsgRcv id size msgtyp flags) = receiver-needs s client id size msgtyp flags ∙ for-id to_read kinds.Queue id (perm_of s kinds.Queue id)
  needed (SemGet key nsems flags) =
      let asked : Get = record { key = key; flags = flags } in
      needs-on (λ sems. record s { sems = sems }) (get_set s.limits s.sems (caller s client) asked nsems)
      ∙ needs-on (λ sets. record s.sems { sets = sets }) (get s.sems.sets (caller s client) asked (getting_set nsems))
      ∙ set-needs s.sems.sets (caller s client) asked nsems (object_of_key s.sems.sets key)
  needed (SemOp id ops) = operator-needs s client id ops ∙ for-id (wanted_by ops) kinds.Sems id (perm_of s kinds.Sems id)
  needed (SemTimedOp id ops timeout) = timed-needs s client id ops timeout ∙ for-id (wanted_by ops) kinds.Sems id (perm_of s kinds.Sems id)
  needed (GetVal id num) = looked id num _
  needed (GetPid id num) = looked id num _
  needed (GetNcnt id num) = looked id num _
  needed (GetZcnt id num) = looked id num _
  needed (GetAll id) = sems-needs (get_all s.sems id) to_read id (found-needs (set_at s.sems id) BadId _ _ to_read (λ o. o.perm) (λ set. refl))
  needed (SetVal id num value) = sems-needs (set_value s.sems (caller s client) id num value) to_alter id (found-needs (set_at s.sems id) BadId _ _ to_alter (λ o. o.perm) (λ set. refl))
  needed (SetAll id values) = sems-needs (set_all s.sems (caller s client) id values) to_alter id (found-needs (set_at s.sems id) BadId _ _ to_alter (λ o. o.perm) (λ set. refl))
  needed (ShmGet key size flags) =
      let asked : Get = record { key = key; flags = flags } in
      needs-on (λ shared. record s { shared = shared }) (get_segment s.limits s.shared (caller s client) asked size)
      ∙ needs-on (λ segments. record s.shared { segments = segments }) (get s.shared.segments (caller s client) asked (getting_segment s.limits (pid_at s client) size))
      ∙ segment-needs s.shared.segments (caller s client) asked s.limits size (object_of_key s.shared.segments key)
  needed (ShmAt id flags) =
      needs-on (λ shared. record s { shared = shared }) (attach s.shared (caller s client) id flags)
      ∙ found-needs (segment_at s.shared id) BadId _ _ (wanted_to_attach flags) (λ o. o.perm) (λ segment. ap (λ ns. Permission segment.perm (wanted_to_attach flags) ∷ ns) (no-needs (free_number s.shared.attached (process_at s client)) TooManyAttached _ _ (λ number. refl)))
      ∙ for-id (wanted_to_attach flags) kinds.Segment id (perm_of s kinds.Segment id)
  needed (ShmDt att) = tt
  needed (ShmRead att offset len) = tt
  needed (ShmWrite att offset bytes) = tt
  needed (IpcStat kind id) =
      found-needs (status_of s kind id) BadId _ _ to_read (λ status. status.0) (λ status. refl)
      ∙ ap (needs_for to_read) (stat-perm s kind id)
      ∙ for-id to_read kind id (perm_of s kind id)
  needed (IpcSet kind id uid gid mode qbytes) = tt
  needed (IpcRmid kind id) = tt
  needed (Listing kind) = tt
  needed (Interrupt pid) = tt
  needed (InterruptThread target) = tt
  needed (Kill pid) = tt
  needed (SetCreds euid egid groups) = tt
  needed (Assume creds) = tt
  needed (Begin pid creds) = tt
  needed (Fork child pid) = tt
  needed (Clone child) = tt
  needed (Name pid) = tt
  needed Exec = tt
  needed Exit = tt

  if-is : (call : Call) (asked : Option Asked) → IsNeeded call asked → IfSome asked (λ a. needs s client call ≡ permission_of a.want (named s a.target))
  if-is call None h = h
  if-is call (Some asked) h = h

  pub if-needed : (call : Call) (asked : Option Asked) → asked ≡ asked_in call → IfSome asked (λ a. needs s client call ≡ permission_of a.want (named s a.target))
  if-needed call asked is = if-is call asked (subst (IsNeeded call) (sym is) (needed call))

  found-control : {Y : Type 0} (o : Option Perm) (rule : Rule) (plain : IsPlain rule) (rest : Perm → Plan Y) → ((perm : Perm) → NeedsControl (needs_in (rest perm)) (Some perm)) → NeedsControl (needs_in (found o rule plain rest)) o
  found-control None rule plain rest h = refl
  found-control (Some perm) rule plain rest h = h perm

  abbrev pub IsControlled : Call → Option (Kind × ℕ) → Type 0
  IsControlled call None = Unit {0}
  IsControlled call (Some object) = NeedsControl (needs s client call) (perm_of s object.0 object.1)

  pub controlled : (call : Call) → IsControlled call (controlled_in call)
  unfolding part_plan
  controlled (MsgGet key flags) = tt
  controlled (MsgSnd id mtype text flags) = tt
  controlled (MsgRcv id size msgtyp flags) = tt
  controlled (SemGet key nsems flags) = tt
  controlled (SemOp id ops) = tt
  controlled (SemTimedOp id ops timeout) = tt
  controlled (GetVal id num) = tt
  controlled (GetPid id num) = tt
  controlled (GetNcnt id num) = tt
  controlled (GetZcnt id num) = tt
  controlled (GetAll id) = tt
  controlled (SetVal id num value) = tt
  controlled (SetAll id values) = tt
  controlled (ShmGet key size flags) = tt
  controlled (ShmAt id flags) = tt
  controlled (ShmDt att) = tt
  controlled (ShmRead att offset len) = tt
  controlled (ShmWrite att offset bytes) = tt
  controlled (IpcStat kind id) = tt
  controlled (IpcSet kind id uid gid mode qbytes) = found-control (perm_of s kind id) BadId _ _ (λ perm. (_, refl))
  controlled (IpcRmid kind id) = found-control (perm_of s kind id) BadId _ _ (λ perm. (_, refl))
  controlled (Listing kind) = tt
  controlled (Interrupt pid) = tt
  controlled (InterruptThread target) = tt
  controlled (Kill pid) = tt
  controlled (SetCreds euid egid groups) = tt
  controlled (Assume creds) = tt
  controlled (Begin pid creds) = tt
  controlled (Fork child pid) = tt
  controlled (Clone child) = tt
  controlled (Name pid) = tt
  controlled Exec = tt
  controlled Exit = tt

  if-control : (call : Call) (object : Option (Kind × ℕ)) → IsControlled call object → IfSome object (λ o. NeedsControl (needs s client call) (perm_of s o.0 o.1))
  if-control call None h = h
  if-control call (Some object) h = h

  pub if-controlled : (call : Call) (object : Option (Kind × ℕ)) → object ≡ controlled_in call → IfSome object (λ o. NeedsControl (needs s client call) (perm_of s o.0 o.1))
  if-controlled call object is = if-control call object (subst (IsControlled call) (sym is) (controlled call))
