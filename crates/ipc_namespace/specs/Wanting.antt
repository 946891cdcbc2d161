-- Which calls may be refused for want of memory.
use Rattle.std.specs.Prelude.{◌+◌, ◌^◌, nat_le, Bool, true, false, ◌&&◌, ◌||◌}
use Rattle.ipc_call.specs.declared.calls.Call.{Call}
use Rattle.ipc_call.specs.declared.calls.Call.TheVariants.{GetVal, GetPid, GetNcnt, GetZcnt, SetVal, SetAll, ShmDt, IpcSet, IpcRmid, Interrupt, InterruptThread, Kill, SetCreds, Assume, Begin, Clone, Name, Exec, Exit}
use Rattle.ipc_model.specs.State.{State}
use Rattle.ipc_model.specs.Decide.{begins}

-- serving the call may take memory: not those by which threads and processes begin, take a pid or credentials, are
-- interrupted or end, nor those that take from an object, set what is there, or look at a number
abbrev pub takes_memory : Call → Bool
takes_memory (GetVal id num) = false
takes_memory (GetPid id num) = false
takes_memory (GetNcnt id num) = false
takes_memory (GetZcnt id num) = false
takes_memory (SetVal id num value) = false
takes_memory (SetAll id values) = false
takes_memory (ShmDt att) = false
takes_memory (IpcSet kind id uid gid mode qbytes) = false
takes_memory (IpcRmid kind id) = false
takes_memory (Interrupt pid) = false
takes_memory (InterruptThread client) = false
takes_memory (Kill pid) = false
takes_memory (SetCreds euid egid groups) = false
takes_memory (Assume creds) = false
takes_memory (Begin pid creds) = false
takes_memory (Clone child) = false
takes_memory (Name pid) = false
takes_memory Exec = false
takes_memory Exit = false
takes_memory call = true

-- as many processes have come as there can be
abbrev pub have_all_come : State → Bool
have_all_come s = nat_le (2 ^ 64) (s.next + 1)

-- an event of this call may be refused for want of memory: where it may take some, or a process is to begin and all
-- have come
abbrev pub may_want_memory : State → Call → Bool
may_want_memory s call = takes_memory call || begins call && have_all_come s
