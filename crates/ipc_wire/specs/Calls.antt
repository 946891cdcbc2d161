-- The call of the namespace that a client asks.
use Rattle.std.specs.Prelude.{ℕ, nat_lt, None, Some, if◌then◌else◌}
use Rattle.ipc_call.specs.declared.calls.Call.{Call}
use Rattle.ipc_call.specs.declared.calls.Call.TheVariants as calls
use Rattle.ipc_wire.specs.declared.requests.Ask.{Ask}
use Rattle.ipc_wire.specs.declared.requests.Ask.TheVariants as asks

-- An identifier is below 2 ^ 31. Any other word becomes the number that is never one.
abbrev pub id_of : ℕ → ℕ
id_of word = if nat_lt word 2147483648 then word else 4294967295

abbrev pub call_of : Ask → Call
call_of (asks.MsgGet key flags) = calls.MsgGet key flags
call_of (asks.MsgSnd id mtype text flags) = calls.MsgSnd (id_of id) mtype text flags
call_of (asks.MsgRcv id size msgtyp flags) = calls.MsgRcv (id_of id) size msgtyp flags
call_of (asks.SemGet key nsems flags) = calls.SemGet key nsems flags
call_of (asks.SemOp id opers) = calls.SemOp (id_of id) opers
call_of (asks.SemTimedOp id opers None) = calls.SemOp (id_of id) opers
call_of (asks.SemTimedOp id opers (Some timeout)) = calls.SemTimedOp (id_of id) opers timeout
call_of (asks.GetVal id num) = calls.GetVal (id_of id) num
call_of (asks.GetPid id num) = calls.GetPid (id_of id) num
call_of (asks.GetNcnt id num) = calls.GetNcnt (id_of id) num
call_of (asks.GetZcnt id num) = calls.GetZcnt (id_of id) num
call_of (asks.GetAll id) = calls.GetAll (id_of id)
call_of (asks.SetVal id num value) = calls.SetVal (id_of id) num value
call_of (asks.SetAll id values) = calls.SetAll (id_of id) values
call_of (asks.ShmGet key size flags) = calls.ShmGet key size flags
call_of (asks.ShmAt id flags) = calls.ShmAt (id_of id) flags
call_of (asks.ShmDt att) = calls.ShmDt att
call_of (asks.IpcStat kind id) = calls.IpcStat kind (id_of id)
call_of (asks.IpcSet kind id uid gid mode room) = calls.IpcSet kind (id_of id) uid gid mode room
call_of (asks.IpcRmid kind id) = calls.IpcRmid kind (id_of id)
