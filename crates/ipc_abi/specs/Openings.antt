-- What a service is opened with.
use Rattle.std.specs.Prelude.{Bool, not, ◌==◌, ◌%◌, ◌<◌, ◌≤◌, take}
use Rattle.ipc_call.specs.declared.limits.Limits.{Limits}
use Rattle.ipc_creds.specs.Credentials.{Credentials, groups_max}
use Rattle.ipc_abi.specs.declared.opening.RawClient.{RawClient}
use Rattle.ipc_abi.specs.declared.opening.RawLimits.{RawLimits}

-- a sequence number has 16 bits
abbrev pub limits_in : RawLimits → Limits
limits_in l = record {
  queues = l.queues;
  sets = l.sets;
  segments = l.segments;
  first_seq = l.first_seq % 65536;
  msg_max = l.msg_max;
  msg_mnb = l.msg_mnb;
  sem_msl = l.sem_msl;
  sem_opm = l.sem_opm;
  shm_max = l.shm_max;
}

-- whether a service keeps its journal until it is read
abbrev pub journal_in : RawLimits → Bool
journal_in l = not (l.journal == 0)

-- at most 32 groups count, and no capability but the five that there are is given
abbrev pub IsValid : RawClient → Type 0
IsValid c = (c.ngroups ≤ groups_max) × (c.caps < 32)

-- its real and saved user and group are the effective ones
abbrev pub creds_in : RawClient → Credentials
creds_in c = record {
  euid = c.uid;
  egid = c.gid;
  groups = take c.ngroups c.groups;
  caps = c.caps;
  ruid = c.uid;
  suid = c.uid;
  rgid = c.gid;
  sgid = c.gid;
}
