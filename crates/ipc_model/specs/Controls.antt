-- Controls of an object of any kind: IPC_STAT, IPC_SET and IPC_RMID (msgctl(2), semctl(2), shmctl(2)). Each asks first
-- whether the object is there. Then IPC_STAT needs the right to read, and the others control of it; IPC_SET with a
-- msg_qbytes above MSGMNB needs CAP_SYS_RESOURCE too, and with one for another kind is refused before all else.
use Rattle.std.specs.Prelude.{ℕ, ◌%◌, nat_le, ◌==◌, Bool, true, is_none, if◌then◌else◌, [], ◌∷◌, length, Option, Some, None, option_map, unwrap_or}
use Rattle.std.specs.FinMap as finite
use Rattle.ipc_call.specs.declared.calls.Kind.TheVariants as kinds
use Rattle.ipc_call.specs.declared.rules.Rule.TheVariants.{BadId, BadArgument}
use Rattle.ipc_call.specs.declared.replies.Answer.TheVariants.{Done, Status as StatusAnswer}
use Rattle.ipc_call.specs.declared.settings.Settings.{Settings}
use Rattle.ipc_call.specs.declared.replies.Status.{Status}
use Rattle.ipc_call.specs.declared.replies.Status.TheVariants as statuses
use Rattle.ipc_perm.specs.Access.{Permission, Control, Resource, to_read}
use Rattle.ipc_ids.specs.Table.{Table, without_object}
use Rattle.ipc_objects.specs.declared.object.Owner.{Owner}
use Rattle.ipc_objects.specs.Objects.{changed, with_owner, without_key}
use Rattle.msg_queue.specs.Messages.{bytes_of}
use Rattle.sem_undo.specs.Entries.{cleared}
use Rattle.shm_seg.specs.Attachments.{attach_count}
use Rattle.ipc_model.specs.State.{Kind, Object, Perm, Queue, Segment, SemSet, Sems, Shared, State}
use Rattle.ipc_model.specs.Segments.{segment_at}
use Rattle.ipc_model.specs.Plan.{Needs, Passes, Plan, Grant, found, in_order, ◌⨾◌}

abbrev pub perm_in : {X : Type 0} → Table (Object X) → ℕ → Option Perm
perm_in objects id = option_map (λ object. object.perm) (finite.get objects.objects id)

-- the permissions of the object of the identifier
abbrev pub perm_of : State → Kind → ℕ → Option Perm
perm_of s kinds.Queue id = perm_in s.queues id
perm_of s kinds.Sems id = perm_in s.sems.sets id
perm_of s kinds.Segment id = perm_in s.shared.segments id

-- a set leaves, and what exit undoes of it, of every client
abbrev pub without_set : Sems → ℕ → Sems
without_set sems id = record { sets = without_object sems.sets id; undo = cleared sems.undo id (λ _. true) }

-- a segment that is attached is marked, and has no key any more
abbrev pub marked : Object Segment → Object Segment
marked segment = without_key (record segment { contents = record segment.contents { is_marked = true } })

abbrev pub without_segment : Shared → ℕ → Shared
without_segment shared id = record shared {
  segments = if attach_count shared.attached id == 0
      then without_object shared.segments id
      else changed shared.segments id marked;
}

-- IPC_RMID: the object leaves or is marked, and its key is free
abbrev pub removed : State → Kind → ℕ → State
removed s kinds.Queue id = record s { queues = without_object s.queues id }
removed s kinds.Sems id = record s { sems = without_set s.sems id }
removed s kinds.Segment id = record s { shared = without_segment s.shared id }

abbrev pub remove_object : State → Kind → ℕ → Plan State
remove_object s kind id =
    found (perm_of s kind id) BadId _ (λ perm. Needs (Control perm) ⨾ Grant Done (removed s kind id))

-- IPC_STAT: msg_cbytes and msg_qnum are counted anew
abbrev pub status_of_queue : Object Queue → Status
status_of_queue queue = statuses.Queue (record {
  perm = queue.perm;
  cbytes = bytes_of queue.contents.messages;
  qnum = length queue.contents.messages;
  qbytes = queue.contents.qbytes;
  lspid = queue.contents.last_sender;
  lrpid = queue.contents.last_receiver;
  stime = queue.contents.send_time;
  rtime = queue.contents.receive_time;
  ctime = queue.change_time;
})

abbrev pub status_of_set : Object SemSet → Status
status_of_set set = statuses.Set (record {
  perm = set.perm;
  nsems = length set.contents.semaphores;
  otime = set.contents.op_time;
  ctime = set.change_time;
})

-- so many attachments are to the segment
abbrev pub status_of_segment : ℕ → Object Segment → Status
status_of_segment nattch segment = statuses.Segment (record {
  perm = segment.perm;
  is_marked = segment.contents.is_marked;
  size = length segment.contents.bytes;
  nattch = nattch;
  cpid = segment.contents.creator;
  lpid = segment.contents.last;
  atime = segment.contents.attach_time;
  dtime = segment.contents.detach_time;
  ctime = segment.change_time;
})

-- the permissions and the status of the object of the identifier
abbrev pub status_of : State → Kind → ℕ → Option (Perm × Status)
status_of s kinds.Queue id = option_map (λ queue. (queue.perm, status_of_queue queue)) (finite.get s.queues.objects id)
status_of s kinds.Sems id = option_map (λ set. (set.perm, status_of_set set)) (finite.get s.sems.sets.objects id)
status_of s kinds.Segment id =
    option_map (λ segment. (segment.perm, status_of_segment (attach_count s.shared.attached id) segment))
    (segment_at s.shared id)

abbrev pub stat_object : State → Kind → ℕ → Plan State
stat_object s kind id =
    found (status_of s kind id) BadId _ (λ status. Needs (Permission status.0 to_read) ⨾ Grant (StatusAnswer status.1) s)

-- the owner that IPC_SET sets: the low nine bits of the mode count
abbrev pub owner_in : Settings → Owner
owner_in new = record { uid = new.uid; gid = new.gid; mode = new.mode % 512 }

-- IPC_SET of an object of any kind: its owner and the time of the change
abbrev pub with_new_owner : {X : Type 0} → ℕ → Settings → Object X → Object X
with_new_owner now new object = with_owner object (owner_in new) now

-- IPC_SET of a queue: its owner, the time of the change, and its msg_qbytes where that is given
abbrev pub with_settings : ℕ → Settings → Object Queue → Object Queue
with_settings now new queue = record (with_new_owner now new queue) {
  contents = record queue.contents { qbytes = unwrap_or new.qbytes queue.contents.qbytes };
}

abbrev pub with_set : State → Kind → ℕ → Settings → State
with_set s kinds.Queue id new = record s { queues = changed s.queues id (with_settings s.clock new) }
with_set s kinds.Sems id new =
    record s { sems = record s.sems { sets = changed s.sems.sets id (with_new_owner s.clock new) } }
with_set s kinds.Segment id new =
    record s { shared = record s.shared { segments = changed s.shared.segments id (with_new_owner s.clock new) } }

-- a msg_qbytes above MSGMNB needs CAP_SYS_RESOURCE
abbrev pub is_within : State → Option ℕ → Bool
is_within s None = true
is_within s (Some qbytes) = nat_le qbytes s.limits.msg_mnb

-- msg_qbytes is of queues alone
abbrev pub takes_qbytes : Kind → Option ℕ → Bool
takes_qbytes kinds.Queue qbytes = true
takes_qbytes kind qbytes = is_none qbytes

abbrev pub set_object : State → Kind → ℕ → Settings → Plan State
set_object s kind id new =
    Passes (takes_qbytes kind new.qbytes) BadArgument _
    ⨾ found (perm_of s kind id) BadId _ (λ perm.
    Needs (Control perm)
    ⨾ in_order (if is_within s new.qbytes then [] else Needs Resource ∷ []) (Grant Done (with_set s kind id new)))
