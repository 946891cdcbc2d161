-- The codes of operations.
use Rattle.std.specs.Prelude.{ℕ, ◌==◌, List, [], ◌∷◌, Option}
use Rattle.std.specs.List.{find}
use Rattle.ipc_wire.specs.declared.operations.Operation.{Operation}
use Rattle.ipc_wire.specs.declared.operations.Operation.TheVariants.{Hello, Cancel, Fork, MsgGet, MsgSnd, MsgRcv}
use Rattle.ipc_wire.specs.declared.operations.Operation.TheVariants.{SemGet, SemOp, SemTimedOp, GetVal, GetPid, GetNcnt, GetZcnt}
use Rattle.ipc_wire.specs.declared.operations.Operation.TheVariants.{GetAll, SetVal, SetAll, ShmGet, ShmAt, ShmDt}
use Rattle.ipc_wire.specs.declared.operations.Operation.TheVariants.{IpcStat, IpcSet, IpcRmid, Nsems, At, Totals}

abbrev pub code_of : Operation → ℕ
code_of Hello = 1
code_of Cancel = 2
code_of Fork = 3
code_of MsgGet = 10
code_of MsgSnd = 11
code_of MsgRcv = 12
code_of SemGet = 20
code_of SemOp = 21
code_of SemTimedOp = 22
code_of GetVal = 23
code_of GetPid = 24
code_of GetNcnt = 25
code_of GetZcnt = 26
code_of GetAll = 27
code_of SetVal = 28
code_of SetAll = 29
code_of ShmGet = 30
code_of ShmAt = 31
code_of ShmDt = 32
code_of IpcStat = 40
code_of IpcSet = 41
code_of IpcRmid = 42
code_of Nsems = 50
code_of At = 51
code_of Totals = 52

abbrev pub operations : List Operation
operations =
    Hello ∷ Cancel ∷ Fork
    ∷ MsgGet ∷ MsgSnd ∷ MsgRcv
    ∷ SemGet ∷ SemOp ∷ SemTimedOp ∷ GetVal ∷ GetPid ∷ GetNcnt ∷ GetZcnt ∷ GetAll ∷ SetVal ∷ SetAll
    ∷ ShmGet ∷ ShmAt ∷ ShmDt
    ∷ IpcStat ∷ IpcSet ∷ IpcRmid
    ∷ Nsems ∷ At ∷ Totals ∷ []

-- the operation of a code; None where it is the code of none
abbrev pub operation_of : ℕ → Option Operation
operation_of code = find (λ operation. code_of operation == code) operations

-- the longest payload of an operation in bytes: 501 operations of six bytes for a semop, and else what a message has room for
abbrev pub longest : Operation → ℕ
longest SemOp = 3006
longest SemTimedOp = 3006
longest _ = 69952
