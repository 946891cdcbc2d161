-- The limits of a namespace (proc_sys_kernel(5), or proc(5); sequence numbers are the project's own).
use Rattle.std.specs.Prelude.{ℕ, Bool, ◌&&◌, nat_le}
use Rattle.ipc_call.specs.declared.limits.Limits.{Limits}
use Rattle.ipc_call.specs.declared.limits.Limit.{Limit}
use Rattle.ipc_call.specs.declared.limits.Limit.TheVariants.{Slots, Queues, Sets, Segments, FirstSeq, MsgMax, MsgMnb, SemMsl, SemOpm, ShmMax}

-- the least value, the greatest, and the one that holds where none is set
pub record Range : Type 0 where
  pub least : ℕ
  pub most : ℕ
  pub default : ℕ

abbrev pub range_of : Limit → Range
range_of Slots = record { least = 1; most = 32768; default = 128 }
range_of Queues = record { least = 1; most = 32768; default = 128 }
range_of Sets = record { least = 1; most = 32768; default = 128 }
range_of Segments = record { least = 1; most = 32768; default = 128 }
range_of FirstSeq = record { least = 0; most = 65535; default = 0 }
range_of MsgMax = record { least = 1; most = 65536; default = 8192 }
range_of MsgMnb = record { least = 1; most = 2147483647; default = 16384 }
range_of SemMsl = record { least = 1; most = 32000; default = 32000 }
range_of SemOpm = record { least = 1; most = 500; default = 500 }
range_of ShmMax = record { least = 1; most = 1073741824; default = 33554432 }

abbrev pub least : Limit → ℕ
least limit = (range_of limit).least

abbrev pub most : Limit → ℕ
most limit = (range_of limit).most

abbrev pub is_in_range : Limit → ℕ → Bool
is_in_range limit n = nat_le (least limit) n && nat_le n (most limit)

-- the sequence number isn't asked: each number of its 16 bits is in range
abbrev pub are_in_range : Limits → Bool
are_in_range l =
    is_in_range Queues l.queues && is_in_range Sets l.sets && is_in_range Segments l.segments
    && is_in_range MsgMax l.msg_max && is_in_range MsgMnb l.msg_mnb
    && is_in_range SemMsl l.sem_msl && is_in_range SemOpm l.sem_opm && is_in_range ShmMax l.shm_max

abbrev pub default_limits : Limits
default_limits = record {
  queues = (range_of Queues).default;
  sets = (range_of Sets).default;
  segments = (range_of Segments).default;
  first_seq = (range_of FirstSeq).default;
  msg_max = (range_of MsgMax).default;
  msg_mnb = (range_of MsgMnb).default;
  sem_msl = (range_of SemMsl).default;
  sem_opm = (range_of SemOpm).default;
  shm_max = (range_of ShmMax).default;
}

-- the limits with one of them set; slots are those of all three kinds
abbrev pub with_limit : Limits → Limit → ℕ → Limits
with_limit l Slots n = record l { queues = n; sets = n; segments = n }
with_limit l Queues n = record l { queues = n }
with_limit l Sets n = record l { sets = n }
with_limit l Segments n = record l { segments = n }
with_limit l FirstSeq n = record l { first_seq = n }
with_limit l MsgMax n = record l { msg_max = n }
with_limit l MsgMnb n = record l { msg_mnb = n }
with_limit l SemMsl n = record l { sem_msl = n }
with_limit l SemOpm n = record l { sem_opm = n }
with_limit l ShmMax n = record l { shm_max = n }
