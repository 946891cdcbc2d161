-- The codes of operations and kinds: each is the position in its list, from 0.
use Rattle.std.specs.Prelude.{List, [], ◌∷◌}
use Rattle.ipc_call.specs.declared.calls.Kind.{Kind}
use Rattle.ipc_call.specs.declared.calls.Kind.TheVariants.{Queue, Sems, Segment}
use Rattle.ipc_abi.specs.declared.operations.Operation.{Operation}
use Rattle.ipc_abi.specs.declared.operations.Operation.TheVariants.{MsgGet, MsgSnd, MsgRcv, SemGet, SemOp, SemTimedOp}
use Rattle.ipc_abi.specs.declared.operations.Operation.TheVariants.{GetVal, GetPid, GetNcnt, GetZcnt, GetAll, SetVal, SetAll}
use Rattle.ipc_abi.specs.declared.operations.Operation.TheVariants.{ShmGet, ShmAt, ShmDt, ShmRead, ShmWrite}
use Rattle.ipc_abi.specs.declared.operations.Operation.TheVariants.{IpcStat, IpcSet, IpcRmid, Listing, Interrupt, SetCreds, Exit}
use Rattle.ipc_abi.specs.declared.operations.Operation.TheVariants.{InterruptThread, Kill, Assume, Begin, Fork, Clone, Name, Exec}

abbrev pub operations : List Operation
operations =
    MsgGet ∷ MsgSnd ∷ MsgRcv
    ∷ SemGet ∷ SemOp ∷ SemTimedOp ∷ GetVal ∷ GetPid ∷ GetNcnt ∷ GetZcnt ∷ GetAll ∷ SetVal ∷ SetAll
    ∷ ShmGet ∷ ShmAt ∷ ShmDt ∷ ShmRead ∷ ShmWrite
    ∷ IpcStat ∷ IpcSet ∷ IpcRmid ∷ Listing ∷ Interrupt ∷ SetCreds ∷ Exit
    ∷ InterruptThread ∷ Kill ∷ Assume ∷ Begin ∷ Fork ∷ Clone ∷ Name ∷ Exec ∷ []

abbrev pub kinds : List Kind
kinds = Queue ∷ Sems ∷ Segment ∷ []
