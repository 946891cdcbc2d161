-- The messages that the types hold and that have bytes: in a law a number has no bound, so it is asked that it fits.
use Rattle.std.specs.Prelude.{ℕ, ◌<◌, ◌≤◌, ◌^◌, ℤ, pos, negsuc, List, length, IfSome}
use Rattle.std.specs.Int.{w16, w32, w64}
use Rattle.std.specs.Int.RustNames.{FitsSigned}
use Rattle.std.specs.List.{All, AllByRecursion}
use Rattle.ipc_call.specs.declared.calls.SemOper.{SemOper}
use Rattle.ipc_wire.specs.declared.requests.Ask.{Ask}
use Rattle.ipc_wire.specs.declared.requests.Ask.TheVariants as asks
use Rattle.ipc_wire.specs.declared.requests.Look.{Look}
use Rattle.ipc_wire.specs.declared.requests.Look.TheVariants as looks
use Rattle.ipc_wire.specs.declared.requests.Message.{Message}
use Rattle.ipc_wire.specs.declared.requests.Request.{Request}
use Rattle.ipc_wire.specs.declared.requests.Request.TheVariants.{Hello, Cancel, Fork, Calls, Looks}

-- a number of 32 bits, one of 64, and bytes
abbrev pub Fits32 : ℕ → Type 0
Fits32 n = n < 2 ^ 32

abbrev pub Fits64 : ℕ → Type 0
Fits64 n = n < 2 ^ 64

abbrev pub AreBytes : List ℕ → Type 0
AreBytes bytes = All (λ b. b < 2 ^ 8) bytes

abbrev pub OperFits : SemOper → Type 0
OperFits o = (o.num < 2 ^ 16) × FitsSigned w16 o.op × (o.flags < 2 ^ 16)

-- a value of 16 bits without a sign
abbrev pub ValueFits : ℤ → Type 0
ValueFits (pos n) = n < 2 ^ 16
ValueFits (negsuc n) = ⊥

abbrev pub AskFits : Ask → Type 0
AskFits (asks.MsgGet key flags) = Fits32 key × Fits32 flags
AskFits (asks.MsgSnd id mtype text flags) = Fits64 id × FitsSigned w64 mtype × (length text ≤ 69952) × Fits32 flags
AskFits (asks.MsgRcv id size msgtyp flags) = Fits64 id × Fits64 size × FitsSigned w64 msgtyp × Fits32 flags
AskFits (asks.SemGet key nsems flags) = Fits32 key × Fits32 nsems × Fits32 flags
AskFits (asks.SemOp id opers) = Fits64 id × AllByRecursion OperFits opers × (length opers ≤ 501)
AskFits (asks.SemTimedOp id opers timeout) =
    Fits64 id × AllByRecursion OperFits opers × (length opers ≤ 501) × IfSome timeout (λ t. t < 18446744073709551615)
AskFits (asks.GetVal id num) = Fits64 id × Fits32 num
AskFits (asks.GetPid id num) = Fits64 id × Fits32 num
AskFits (asks.GetNcnt id num) = Fits64 id × Fits32 num
AskFits (asks.GetZcnt id num) = Fits64 id × Fits32 num
AskFits (asks.GetAll id) = Fits64 id
AskFits (asks.SetVal id num value) = Fits64 id × Fits32 num × FitsSigned w32 value
AskFits (asks.SetAll id values) = Fits64 id × AllByRecursion ValueFits values × (length values ≤ 34976)
AskFits (asks.ShmGet key size flags) = Fits32 key × Fits64 size × Fits32 flags
AskFits (asks.ShmAt id flags) = Fits64 id × Fits32 flags
AskFits (asks.ShmDt att) = Fits32 att
AskFits (asks.IpcStat kind id) = Fits64 id
AskFits (asks.IpcSet kind id uid gid mode room) = Fits64 id × Fits32 uid × Fits32 gid × Fits32 mode × IfSome room Fits64
AskFits (asks.IpcRmid kind id) = Fits64 id

abbrev pub LookFits : Look → Type 0
LookFits (looks.Nsems id) = Fits64 id
LookFits (looks.At kind slot any) = Fits32 slot
LookFits (looks.Totals kind) = Unit {0}

abbrev pub RequestFits : Request → Type 0
RequestFits (Hello version token) = Fits32 version × Fits64 token
RequestFits (Cancel seq) = Fits32 seq
RequestFits Fork = Unit {0}
RequestFits (Calls ask) = AskFits ask
RequestFits (Looks look) = LookFits look

pub record MessageFits (m : Message) : Type 0 where
  pub seq : Fits32 m.seq
  pub request : RequestFits m.request
