-- What IPC_STAT and a listing tell of an object, in numbers.
use Rattle.std.specs.Prelude.{ℕ, Bool, if◌then◌else◌}
use Rattle.ipc_call.specs.declared.listings.Listed.{Listed}
use Rattle.ipc_call.specs.declared.listings.Row.{Row}
use Rattle.ipc_call.specs.declared.listings.Row.TheVariants as rows
use Rattle.ipc_call.specs.declared.perms.Perm.{Perm}
use Rattle.ipc_call.specs.declared.replies.QueueStatus.{QueueStatus}
use Rattle.ipc_call.specs.declared.replies.SegmentStatus.{SegmentStatus}
use Rattle.ipc_call.specs.declared.replies.SetStatus.{SetStatus}
use Rattle.ipc_call.specs.declared.replies.Status.{Status}
use Rattle.ipc_call.specs.declared.replies.Status.TheVariants as statuses
use Rattle.ipc_abi.specs.declared.objects.RawObject.{RawObject}

abbrev pub blank_object : RawObject
blank_object = record {
  bytes = 0;
  count = 0;
  qbytes = 0;
  stime = 0;
  rtime = 0;
  otime = 0;
  atime = 0;
  dtime = 0;
  ctime = 0;
  kind = 0;
  id = 0;
  key = 0;
  uid = 0;
  gid = 0;
  cuid = 0;
  cgid = 0;
  mode = 0;
  lspid = 0;
  lrpid = 0;
  cpid = 0;
  lpid = 0;
  marked = 0;
}

-- 1 for true
abbrev pub number_of_bool : Bool → ℕ
number_of_bool b = if b then 1 else 0

abbrev pub with_perm : Perm → RawObject → RawObject
with_perm p o = record o { key = p.key; uid = p.uid; gid = p.gid; cuid = p.cuid; cgid = p.cgid; mode = p.mode }

-- but for the permissions
abbrev pub of_queue : QueueStatus → RawObject
of_queue q = record blank_object {
  kind = 0;
  bytes = q.cbytes;
  count = q.qnum;
  qbytes = q.qbytes;
  lspid = q.lspid;
  lrpid = q.lrpid;
  stime = q.stime;
  rtime = q.rtime;
  ctime = q.ctime;
}

abbrev pub of_set : SetStatus → RawObject
of_set s = record blank_object { kind = 1; count = s.nsems; otime = s.otime; ctime = s.ctime }

abbrev pub of_segment : SegmentStatus → RawObject
of_segment s = record blank_object {
  kind = 2;
  bytes = s.size;
  count = s.nattch;
  marked = number_of_bool s.is_marked;
  cpid = s.cpid;
  lpid = s.lpid;
  atime = s.atime;
  dtime = s.dtime;
  ctime = s.ctime;
}

-- what IPC_STAT tells
abbrev pub object_of_status : Status → RawObject
object_of_status (statuses.Queue queue) = with_perm queue.perm (of_queue queue)
object_of_status (statuses.Set set) = with_perm set.perm (of_set set)
object_of_status (statuses.Segment segment) = with_perm segment.perm (of_segment segment)

abbrev pub with_listed : Listed → RawObject
with_listed l = record blank_object { key = l.key; id = l.id; uid = l.uid; mode = l.mode }

-- what a listing shows
abbrev pub object_of_row : Row → RawObject
object_of_row (rows.Queue object cbytes qnum) = record (with_listed object) { kind = 0; bytes = cbytes; count = qnum }
object_of_row (rows.Set object nsems) = record (with_listed object) { kind = 1; count = nsems }
object_of_row (rows.Segment object is_marked size nattch) =
    record (with_listed object) { kind = 2; bytes = size; count = nattch; marked = number_of_bool is_marked }
