-- What each process may do to each object: the decisions of ipc_perm.
use Rattle.std.specs.Prelude.{List, true, map}
use Rattle.ipc_call.specs.declared.calls.Kind.{Kind}
use Rattle.ipc_call.specs.declared.calls.Kind.TheVariants as kinds
use Rattle.ipc_creds.specs.Credentials.{Credentials}
use Rattle.ipc_perm.specs.Access.{control_verdict_on, to_alter, to_read, verdict_on}
use Rattle.ipc_perm.specs.declared.access.Want.{Want}
use Rattle.ipc_live.specs.declared.objects.Object.{Object}
use Rattle.ipc_live.specs.declared.objects.Use.{Use}
use Rattle.ipc_live.specs.declared.objects.Use.TheVariants.{Queue, Sems, Segment}
use Rattle.ipc_live.specs.declared.processes.Process.{Process}
use Rattle.ipc_live.specs.declared.table.Told.{Told}

abbrev pub kind_of : Use → Kind
kind_of (Queue _ _) = kinds.Queue
kind_of Sems = kinds.Sems
kind_of (Segment _ _ _) = kinds.Segment

-- the right that a call needs which changes what an object of the kind holds: to attach a segment without SHM_RDONLY
-- asks to read it and to write it (shmop(2))
abbrev pub wanted_to_write : Kind → Want
wanted_to_write kinds.Queue = to_alter
wanted_to_write kinds.Sems = to_alter
wanted_to_write kinds.Segment = record { read = true; alter = true }

-- what a caller of these credentials may do to an object
abbrev pub told_of : Credentials → Object → Told
told_of c o = record {
  read = verdict_on c o.perm to_read;
  write = verdict_on c o.perm (wanted_to_write (kind_of o.used));
  control = control_verdict_on c o.perm;
}

-- a row: a process, and what it may do to the object of its entry
pub record RowOf : Type 0 where
  pub process : Process
  pub told : Told

-- an entry: an object with its rows
pub record EntryOf : Type 0 where
  pub object : Object
  pub rows : List RowOf

abbrev pub row_of : Object → Process → RowOf
row_of o p = record { process = p; told = told_of p.creds o }

abbrev pub entry_of : List Process → Object → EntryOf
entry_of processes o = record { object = o; rows = map (row_of o) processes }

-- objects × processes: an entry for each object, and in it a row for each process
abbrev pub table_of : List Object → List Process → List EntryOf
table_of objects processes = map (entry_of processes) objects
