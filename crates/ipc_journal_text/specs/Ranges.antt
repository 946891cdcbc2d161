-- The values that the types of a journal's parts hold: of a text it is asked that they fit, since a number has no bound here.
use Rattle.std.specs.Prelude.{ℕ, ◌<◌, ◌≤◌, ◌^◌, List, length, IfSome, IsTrue}
use Rattle.std.specs.Int.RustNames.{FitsSigned}
use Rattle.std.specs.List.{All}
use mir.Syntax.{w16, w32, w64}
use Rattle.ipc_call.specs.Limits.{are_in_range}
use Rattle.ipc_call.specs.declared.calls.Call.{Call}
use Rattle.ipc_call.specs.declared.calls.Call.TheVariants.{MsgGet, MsgSnd, MsgRcv, SemGet, SemOp, SemTimedOp, GetVal, GetPid}
use Rattle.ipc_call.specs.declared.calls.Call.TheVariants.{GetNcnt, GetZcnt, GetAll, SetVal, SetAll, ShmGet, ShmAt, ShmDt}
use Rattle.ipc_call.specs.declared.calls.Call.TheVariants.{ShmRead, ShmWrite, IpcStat, IpcSet, IpcRmid, Listing, Interrupt, InterruptThread, Kill}
use Rattle.ipc_call.specs.declared.calls.Call.TheVariants.{SetCreds, Assume, Begin, Fork, Clone, Name, Exec, Exit}
use Rattle.ipc_call.specs.declared.calls.Identity.{Identity}
use Rattle.ipc_call.specs.declared.calls.SemOper.{SemOper}
use Rattle.ipc_call.specs.declared.limits.Limits.{Limits}
use Rattle.ipc_call.specs.declared.replies.JournalRow.{JournalRow}
use Rattle.ipc_call.specs.declared.replies.JournalRow.TheVariants.{Called, Answered}
use Rattle.ipc_creds.specs.Credentials.{Credentials, groups_max}

-- a number of 32 bits, one of 64, and bytes
abbrev pub Fits32 : ℕ → Type 0
Fits32 n = n < 2 ^ 32

abbrev pub Fits64 : ℕ → Type 0
Fits64 n = n < 2 ^ 64

abbrev pub AreBytes : List ℕ → Type 0
AreBytes bytes = All (λ b. b < 2 ^ 8) bytes

abbrev pub OperFits : SemOper → Type 0
OperFits o = (o.num < 2 ^ 16) × FitsSigned w16 o.op × (o.flags < 2 ^ 16)

-- numbers of 32 bits, and a set of capabilities of 8 bits
pub record IdentityFits (i : Identity) : Type 0 where
  pub euid : Fits32 i.euid
  pub egid : Fits32 i.egid
  pub ruid : Fits32 i.ruid
  pub rgid : Fits32 i.rgid
  pub suid : Fits32 i.suid
  pub sgid : Fits32 i.sgid
  pub groups : All Fits32 i.groups
  pub caps : i.caps < 2 ^ 8

abbrev pub CallFits : Call → Type 0
CallFits (MsgGet key flags) = Fits32 key × Fits32 flags
CallFits (MsgSnd id mtype text flags) = Fits32 id × FitsSigned w64 mtype × AreBytes text × Fits32 flags
CallFits (MsgRcv id size msgtyp flags) = Fits32 id × Fits64 size × FitsSigned w64 msgtyp × Fits32 flags
CallFits (SemGet key nsems flags) = Fits32 key × Fits32 nsems × Fits32 flags
CallFits (SemOp id ops) = Fits32 id × All OperFits ops
CallFits (SemTimedOp id ops timeout) = Fits32 id × All OperFits ops × Fits64 timeout
CallFits (GetVal id num) = Fits32 id × Fits32 num
CallFits (GetPid id num) = Fits32 id × Fits32 num
CallFits (GetNcnt id num) = Fits32 id × Fits32 num
CallFits (GetZcnt id num) = Fits32 id × Fits32 num
CallFits (GetAll id) = Fits32 id
CallFits (SetVal id num value) = Fits32 id × Fits32 num × FitsSigned w32 value
CallFits (SetAll id values) = Fits32 id × All (λ value. FitsSigned w32 value) values
CallFits (ShmGet key size flags) = Fits32 key × Fits64 size × Fits32 flags
CallFits (ShmAt id flags) = Fits32 id × Fits32 flags
CallFits (ShmDt att) = Fits32 att
CallFits (ShmRead att offset len) = Fits32 att × Fits64 offset × Fits64 len
CallFits (ShmWrite att offset bytes) = Fits32 att × Fits64 offset × AreBytes bytes
CallFits (IpcStat kind id) = Fits32 id
CallFits (IpcSet kind id uid gid mode qbytes) =
    Fits32 id × Fits32 uid × Fits32 gid × Fits32 mode × IfSome qbytes (λ bytes. Fits64 bytes)
CallFits (IpcRmid kind id) = Fits32 id
CallFits (Listing kind) = Unit {0}
CallFits (Interrupt pid) = Fits32 pid
CallFits (InterruptThread client) = Fits32 client
CallFits (Kill pid) = Fits32 pid
CallFits (SetCreds euid egid groups) = Fits32 euid × Fits32 egid × IfSome groups (λ gs. All Fits32 gs)
CallFits (Assume creds) = IdentityFits creds
CallFits (Begin pid creds) = Fits32 pid × IdentityFits creds
CallFits (Fork child pid) = Fits32 child × Fits32 pid
CallFits (Clone child) = Fits32 child
CallFits (Name pid) = Fits32 pid
CallFits Exec = Unit {0}
CallFits Exit = Unit {0}

abbrev pub RowFits : JournalRow → Type 0
RowFits (Called client now call) = Fits32 client × Fits64 now × CallFits call
RowFits (Answered client place turn rule) = Fits32 client × Fits64 place × Fits32 turn

-- numbers of 32 bits, at most 32 groups, and a set of capabilities of 8 bits
pub record CredsFit (c : Credentials) : Type 0 where
  pub euid : Fits32 c.euid
  pub egid : Fits32 c.egid
  pub ruid : Fits32 c.ruid
  pub rgid : Fits32 c.rgid
  pub suid : Fits32 c.suid
  pub sgid : Fits32 c.sgid
  pub groups : All Fits32 c.groups
  pub few : length c.groups ≤ groups_max
  pub caps : c.caps < 2 ^ 8

-- what a journal may have: limits in their ranges, 1 to 4,096 clients, and any rows
pub record IsJournal (limits : Limits) (clients : List Credentials) (rows : List JournalRow) : Type 0 where
  pub in_range : IsTrue (are_in_range limits)
  pub first_seq : limits.first_seq < 2 ^ 16
  pub some : 1 ≤ length clients
  pub few : length clients ≤ 4096
  pub clients_fit : All CredsFit clients
  pub rows_fit : All RowFits rows
