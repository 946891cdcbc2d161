-- shmat, shmdt, and the bytes behind an attachment (shmop(2); that an attachment is a number, with reads and writes at
-- offsets in the place of mapped memory, is the project's own). shmat: the segment is there; the caller may read it,
-- and alter it without SHM_RDONLY; it has a number free. The others: the caller has the attachment; a write asks that
-- it isn't read-only; a read or write is all within the segment.
use Rattle.std.specs.Prelude.{◌≡◌, ◌<◌, ℕ, zero, suc, ◌+◌, ◌==◌, Bool, true, false, not, ◌&&◌, List, length, Option, Some, None, option_and_then, option_map, if◌then◌else◌}
use Rattle.std.specs.FinMap as finite
use Rattle.ipc_call.specs.Flags.{has_flag, shm_rdonly}
use Rattle.ipc_call.specs.declared.calls.Call.TheVariants.{Exec, Exit, IpcRmid, Kill, ShmDt}
use Rattle.ipc_call.specs.declared.calls.Kind.TheVariants as kinds
use Rattle.ipc_call.specs.declared.rules.Rule.TheVariants.{BadId, NotAttached, OutOfSegment, TooManyAttached}
use Rattle.ipc_call.specs.declared.replies.Answer.TheVariants.{Attached as AttachedAnswer, Bytes, Done}
use Rattle.ipc_perm.specs.declared.access.Want.{Want}
use Rattle.ipc_perm.specs.Access.{Permission, Writable}
use Rattle.ipc_ids.specs.Table.{Table, without_object}
use Rattle.ipc_objects.specs.Objects.{changed, with_contents}
use Rattle.shm_seg.specs.declared.attachments.Attachment.{Attachment}
use Rattle.shm_seg.specs.Attachments.{attach_count, attachment_at, free_number, shmseg, with_attachment, without_attachment}
use Rattle.shm_seg.specs.Segments.{lies_within, overwritten, part_of}
use Rattle.ipc_model.specs.State.{Call, Caller, Object, Segment, Shared}
use Rattle.ipc_model.specs.Plan.{Needs, Passes, Plan, Grant, found, ◌⨾◌}

abbrev pub segment_at : Shared → ℕ → Option (Object Segment)
segment_at shared id = finite.get shared.segments.objects id

-- the rights that an attachment needs
abbrev pub wanted_to_attach : ℕ → Want
wanted_to_attach flags = record { read = true; alter = not (has_flag flags shm_rdonly) }

-- shm_lpid and shm_atime are set
abbrev pub attached_by : Caller → Segment → Segment
attached_by who segment = record segment { last = who.pid; attach_time = who.now }

abbrev pub attachment_to : ℕ → ℕ → Attachment
attachment_to id flags = record { segment = id; is_read_only = has_flag flags shm_rdonly }

abbrev pub with_attached : Shared → Caller → ℕ → Attachment → Segment → Shared
with_attached shared who number a segment = record {
  segments = with_contents shared.segments a.segment (attached_by who segment);
  attached = with_attachment shared.attached who.process number a;
}

-- shmat: the least number that is free
abbrev pub attach : Shared → Caller → ℕ → ℕ → Plan Shared
attach shared who id flags = found (segment_at shared id) BadId _ (λ segment.
    Needs (Permission segment.perm (wanted_to_attach flags))
    ⨾ found (free_number shared.attached who.process) TooManyAttached _ (λ number.
    Grant (AttachedAnswer number) (with_attached shared who number (attachment_to id flags) segment.contents)))

-- shm_lpid and shm_dtime are set
abbrev pub detached_by : Caller → Segment → Segment
detached_by who segment = record segment { last = who.pid; detach_time = who.now }

-- after one of its attachments has gone: a marked segment goes with its last
abbrev pub left_segment : Shared → Caller → ℕ → Option (Object Segment) → Shared
left_segment shared who id None = shared
left_segment shared who id (Some segment) = record shared {
  segments = if segment.contents.is_marked && attach_count shared.attached id == 0
      then without_object shared.segments id
      else with_contents shared.segments id (detached_by who segment.contents);
}

-- what the caller has attached under the number is detached, where there is anything
abbrev pub without_number : Shared → Caller → ℕ → Option Attachment → Shared
without_number shared who number None = shared
without_number shared who number (Some a) =
    let rest : Shared = record shared { attached = without_attachment shared.attached who.process number } in
    left_segment rest who a.segment (segment_at shared a.segment)

abbrev pub detached : Shared → Caller → ℕ → Shared
detached shared who number = without_number shared who number (attachment_at shared.attached who.process number)

-- shmdt
abbrev pub detach : Shared → Caller → ℕ → Plan Shared
detach shared who number = found (attachment_at shared.attached who.process number) NotAttached _ (λ a.
    Grant Done (without_number shared who number (Some a)))

-- so many numbers of the caller, from this one on
unfoldable pub detached_from : ℕ → ℕ → Caller → Shared → Shared
detached_from zero number who shared = shared
detached_from (suc left) number who shared = detached_from left (number + 1) who (detached shared who number)

-- exit: all, the least number first
abbrev pub after_detaches : Shared → Caller → Shared
after_detaches shared who = detached_from shmseg 0 who shared

-- a segment, where there is one, with shm_lpid and shm_atime set
abbrev pub noted : Table (Object Segment) → Caller → ℕ → Table (Object Segment)
noted t who id = changed t id (λ segment. record segment { contents = attached_by who segment.contents })

-- fork: what the caller has attached under a number, for the child too, which has nothing there. It is noted as by shmat
abbrev pub with_copy : Shared → Caller → ℕ → ℕ → Option Attachment → Option Attachment → Shared
with_copy shared who child number (Some a) None = record {
  segments = noted shared.segments who a.segment;
  attached = with_attachment shared.attached child number a;
}
with_copy shared who child number parents childs = shared

abbrev pub copied : Shared → Caller → ℕ → ℕ → Shared
copied shared who child number = with_copy shared who child number (attachment_at shared.attached who.process number)
    (attachment_at shared.attached child number)

-- so many numbers, from this one on
unfoldable pub copied_from : ℕ → ℕ → Caller → ℕ → Shared → Shared
copied_from zero number who child shared = shared
copied_from (suc left) number who child shared = copied_from left (number + 1) who child (copied shared who child number)

-- fork: all, the least number first
abbrev pub after_fork : Shared → Caller → ℕ → Shared
after_fork shared who child = copied_from shmseg 0 who child shared

-- what a process has attached under a number, with its segment
abbrev pub behind : Shared → ℕ → ℕ → Option (Attachment × Object Segment)
behind shared process number =
    option_and_then (λ a. option_map (λ segment. (a, segment)) (segment_at shared a.segment))
    (attachment_at shared.attached process number)

abbrev pub read_bytes : Shared → Caller → ℕ → ℕ → ℕ → Plan Shared
read_bytes shared who number offset len = found (behind shared who.process number) NotAttached _ (λ there.
    Passes (lies_within offset len there.1.contents.bytes) OutOfSegment _
    ⨾ Grant (Bytes (part_of offset len there.1.contents.bytes)) shared)

abbrev pub with_bytes : Shared → ℕ → Segment → ℕ → List ℕ → Shared
with_bytes shared id segment offset new = record shared {
  segments = with_contents shared.segments id (record segment { bytes = overwritten offset new segment.bytes });
}

abbrev pub write_bytes : Shared → Caller → ℕ → ℕ → List ℕ → Plan Shared
write_bytes shared who number offset new = found (behind shared who.process number) NotAttached _ (λ there.
    Needs (Writable there.0.is_read_only)
    ⨾ Passes (lies_within offset (length new) there.1.contents.bytes) OutOfSegment _
    ⨾ Grant Done (with_bytes shared there.0.segment there.1.contents offset new))

-- what is true after each event: a segment marked for removal has an attachment (IPC_RMID of shmctl(2))
pub record AreAttached (shared : Shared) : Type 0 where
  pub each : (id : ℕ) (segment : Object Segment) → segment_at shared id ≡ Some segment
      → segment.contents.is_marked ≡ true → 0 < attach_count shared.attached id

-- a call that may end a segment: IPC_RMID of one, and those by which attachments go
abbrev pub ends_segments : Call → Bool
ends_segments (ShmDt att) = true
ends_segments (IpcRmid kinds.Segment id) = true
ends_segments (Kill pid) = true
ends_segments Exec = true
ends_segments Exit = true
ends_segments call = false
