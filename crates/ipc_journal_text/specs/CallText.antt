-- Calls as text: the words of the script language, each number in one form. The text is the project's own.
use Rattle.std.specs.Prelude.{ℕ, ℤ, false, List, [], ◌++◌, codes, decimal, flat_map, Option, Some, None}
use Rattle.std.specs.Fmt.{digits, signed_decimal}
use Rattle.hex.specs.Hex.{encode_lower}
use Rattle.ipc_call.specs.declared.calls.Call.{Call}
use Rattle.ipc_call.specs.declared.calls.Call.TheVariants.{MsgGet, MsgSnd, MsgRcv, SemGet, SemOp, SemTimedOp, GetVal, GetPid}
use Rattle.ipc_call.specs.declared.calls.Call.TheVariants.{GetNcnt, GetZcnt, GetAll, SetVal, SetAll, ShmGet, ShmAt, ShmDt}
use Rattle.ipc_call.specs.declared.calls.Call.TheVariants.{ShmRead, ShmWrite, IpcStat, IpcSet, IpcRmid, Listing, Interrupt, InterruptThread, Kill}
use Rattle.ipc_call.specs.declared.calls.Call.TheVariants.{SetCreds, Assume, Begin, Fork, Clone, Name, Exec, Exit}
use Rattle.ipc_call.specs.declared.calls.Kind.{Kind}
use Rattle.ipc_call.specs.declared.calls.Kind.TheVariants.{Queue, Sems, Segment}
use Rattle.ipc_call.specs.declared.calls.SemOper.{SemOper}
use Rattle.ipc_journal_text.specs.CredentialsText.{identity_text, numbers_text}

-- q, s or m
abbrev pub kind_text : Kind → List ℕ
kind_text Queue = codes "q"
kind_text Sems = codes "s"
kind_text Segment = codes "m"

-- a word and two numbers: a call that reports of a semaphore of a set
abbrev pub pair_text : List ℕ → ℕ → ℕ → List ℕ
pair_text word first second = word ++ (codes " " ++ (decimal first ++ (codes " " ++ decimal second)))

-- a word and the object of a kind
abbrev pub object_text : List ℕ → Kind → ℕ → List ℕ
object_text word kind id = word ++ (codes " " ++ (kind_text kind ++ (codes " " ++ decimal id)))

-- x: and two hexadecimal digits for each byte
abbrev pub bytes_text : List ℕ → List ℕ
bytes_text bytes = codes " x:" ++ encode_lower bytes

-- an operation of semop: the number of the semaphore, what is added, and the flags in octal
abbrev pub oper_text : SemOper → List ℕ
oper_text o =
    codes " " ++ (decimal o.num ++ (codes ":" ++ (signed_decimal o.op ++ (codes ":0" ++ digits 8 false o.flags))))

abbrev pub value_text : ℤ → List ℕ
value_text value = codes " " ++ signed_decimal value

-- new supplementary groups, where some are given
abbrev pub groups_text : Option (List ℕ) → List ℕ
groups_text None = []
groups_text (Some groups) = codes " groups=" ++ numbers_text groups

abbrev pub qbytes_text : Option ℕ → List ℕ
qbytes_text None = []
qbytes_text (Some qbytes) = codes " " ++ decimal qbytes

unfoldable pub timed_text : ℕ → ℕ → List ℕ
timed_text id timeout = codes "semtimedop " ++ (decimal id ++ (codes " " ++ decimal timeout))

unfoldable pub fork_text : ℕ → ℕ → List ℕ
fork_text child pid = codes "fork client:" ++ (decimal child ++ (codes " " ++ decimal pid))

-- the call in the words of the script language: a key in hexadecimal, flags and a mode in octal, other numbers in
-- decimal
abbrev pub call_text : Call → List ℕ
call_text (MsgGet key flags) = codes "msgget 0x" ++ (digits 16 false key ++ (codes " 0" ++ digits 8 false flags))
call_text (MsgSnd id mtype text flags) =
    codes "msgsnd "
    ++ (decimal id ++ (codes " " ++ (signed_decimal mtype ++ (bytes_text text ++ (codes " 0" ++ digits 8 false flags)))))
call_text (MsgRcv id size msgtyp flags) =
    codes "msgrcv "
    ++ (decimal id
    ++ (codes " "
    ++ (decimal size ++ (codes " " ++ (signed_decimal msgtyp ++ (codes " 0" ++ digits 8 false flags))))))
call_text (SemGet key nsems flags) =
    codes "semget 0x"
    ++ (digits 16 false key ++ (codes " " ++ (decimal nsems ++ (codes " 0" ++ digits 8 false flags))))
call_text (SemOp id ops) = codes "semop " ++ (decimal id ++ flat_map oper_text ops)
call_text (SemTimedOp id ops timeout) = timed_text id timeout ++ flat_map oper_text ops
call_text (GetVal id num) = pair_text (codes "getval") id num
call_text (GetPid id num) = pair_text (codes "getpid") id num
call_text (GetNcnt id num) = pair_text (codes "getncnt") id num
call_text (GetZcnt id num) = pair_text (codes "getzcnt") id num
call_text (GetAll id) = codes "getall " ++ decimal id
call_text (SetVal id num value) = pair_text (codes "setval") id num ++ value_text value
call_text (SetAll id values) = codes "setall " ++ (decimal id ++ flat_map value_text values)
call_text (ShmGet key size flags) =
    codes "shmget 0x"
    ++ (digits 16 false key ++ (codes " " ++ (decimal size ++ (codes " 0" ++ digits 8 false flags))))
call_text (ShmAt id flags) = codes "shmat " ++ (decimal id ++ (codes " 0" ++ digits 8 false flags))
call_text (ShmDt att) = codes "shmdt " ++ decimal att
call_text (ShmRead att offset len) =
    codes "shmread " ++ (decimal att ++ (codes " " ++ (decimal offset ++ (codes " " ++ decimal len))))
call_text (ShmWrite att offset bytes) =
    codes "shmwrite " ++ (decimal att ++ (codes " " ++ (decimal offset ++ bytes_text bytes)))
call_text (IpcStat kind id) = object_text (codes "stat") kind id
call_text (IpcSet kind id uid gid mode qbytes) =
    object_text (codes "set") kind id
    ++ (codes " "
    ++ (decimal uid
    ++ (codes " " ++ (decimal gid ++ (codes " 0" ++ (digits 8 false mode ++ qbytes_text qbytes))))))
call_text (IpcRmid kind id) = object_text (codes "rmid") kind id
call_text (Listing kind) = codes "ipcs -" ++ kind_text kind
call_text (Interrupt pid) = codes "interrupt " ++ decimal pid
call_text (InterruptThread client) = codes "interrupt client:" ++ decimal client
call_text (Kill pid) = codes "kill " ++ decimal pid
call_text (SetCreds euid egid groups) =
    codes "setcreds " ++ (decimal euid ++ (codes " " ++ (decimal egid ++ groups_text groups)))
call_text (Assume creds) = codes "assume" ++ identity_text creds
call_text (Begin pid creds) = codes "begin " ++ (decimal pid ++ identity_text creds)
call_text (Fork child pid) = fork_text child pid
call_text (Clone child) = codes "clone client:" ++ decimal child
call_text (Name pid) = codes "name " ++ decimal pid
call_text Exec = codes "exec"
call_text Exit = codes "exit"
