-- The call that a request's numbers and lists mean.
use Rattle.std.specs.Prelude.{ℕ, pos, ◌==◌, List, map, Option, None, Some, option_map, option_and_then, slice_get, if◌then◌else◌}
use Rattle.ipc_call.specs.declared.calls.Call.{Call}
use Rattle.ipc_call.specs.declared.calls.Call.TheVariants as calls
use Rattle.ipc_call.specs.declared.calls.Identity.{Identity}
use Rattle.ipc_call.specs.declared.calls.SemOper.{SemOper}
use Rattle.ipc_abi.specs.declared.operations.Operation.{Operation}
use Rattle.ipc_abi.specs.declared.operations.Operation.TheVariants.{MsgGet, MsgSnd, MsgRcv, SemGet, SemOp, SemTimedOp}
use Rattle.ipc_abi.specs.declared.operations.Operation.TheVariants.{GetVal, GetPid, GetNcnt, GetZcnt, GetAll, SetVal, SetAll}
use Rattle.ipc_abi.specs.declared.operations.Operation.TheVariants.{ShmGet, ShmAt, ShmDt, ShmRead, ShmWrite}
use Rattle.ipc_abi.specs.declared.operations.Operation.TheVariants.{IpcStat, IpcSet, IpcRmid, Listing, Interrupt, SetCreds, Exit}
use Rattle.ipc_abi.specs.declared.operations.Operation.TheVariants.{InterruptThread, Kill, Assume, Begin, Fork, Clone, Name, Exec}
use Rattle.ipc_abi.specs.declared.requests.Lists.{Lists}
use Rattle.ipc_abi.specs.declared.requests.RawRequest.{RawRequest}
use Rattle.ipc_abi.specs.declared.requests.RawSemOper.{RawSemOper}
use Rattle.ipc_abi.specs.Operations.{kinds, operations}

-- the lists of a call
pub record Given : Type 0 where
  pub text : List ℕ
  pub ops : List RawSemOper
  pub values : List ℕ
  pub groups : List ℕ

abbrev pub given : List ℕ → List RawSemOper → List ℕ → List ℕ → Given
given text ops values groups = record { text = text; ops = ops; values = values; groups = groups }

abbrev pub lists_in : Lists → Given
lists_in l = given l.text.now l.ops.now l.values.now l.groups.now

abbrev pub sem_oper : RawSemOper → SemOper
sem_oper o = record { num = o.num; op = o.op; flags = o.flags }

-- what is given where the number isn't 0
abbrev pub where_more : {A : Type 0} → ℕ → A → Option A
where_more more a = if more == 0 then None else Some a

-- the credentials that begin and assume hand in
abbrev pub identity_of : RawRequest → List ℕ → Identity
identity_of r groups = record {
  euid = r.uid;
  egid = r.gid;
  groups = groups;
  caps = r.caps;
  ruid = r.ruid;
  suid = r.suid;
  rgid = r.rgid;
  sgid = r.sgid;
}

-- the call of an operation; None where the kind has no such code
abbrev pub call_of : Operation → RawRequest → Given → Option Call
call_of MsgGet r g = Some (calls.MsgGet r.key r.flags)
call_of MsgSnd r g = Some (calls.MsgSnd r.id r.mtype g.text r.flags)
call_of MsgRcv r g = Some (calls.MsgRcv r.id r.size r.mtype r.flags)
call_of SemGet r g = Some (calls.SemGet r.key r.num r.flags)
call_of SemOp r g = Some (calls.SemOp r.id (map sem_oper g.ops))
call_of SemTimedOp r g = Some (calls.SemTimedOp r.id (map sem_oper g.ops) r.timeout)
call_of GetVal r g = Some (calls.GetVal r.id r.num)
call_of GetPid r g = Some (calls.GetPid r.id r.num)
call_of GetNcnt r g = Some (calls.GetNcnt r.id r.num)
call_of GetZcnt r g = Some (calls.GetZcnt r.id r.num)
call_of GetAll r g = Some (calls.GetAll r.id)
call_of SetVal r g = Some (calls.SetVal r.id r.num r.value)
call_of SetAll r g = Some (calls.SetAll r.id (map pos g.values))
call_of ShmGet r g = Some (calls.ShmGet r.key r.size r.flags)
call_of ShmAt r g = Some (calls.ShmAt r.id r.flags)
call_of ShmDt r g = Some (calls.ShmDt r.id)
call_of ShmRead r g = Some (calls.ShmRead r.id r.offset r.size)
call_of ShmWrite r g = Some (calls.ShmWrite r.id r.offset g.text)
call_of IpcStat r g = option_map (λ kind. calls.IpcStat kind r.id) (slice_get kinds r.kind)
call_of IpcSet r g =
    option_map (λ kind. calls.IpcSet kind r.id r.uid r.gid r.mode (where_more r.more r.size)) (slice_get kinds r.kind)
call_of IpcRmid r g = option_map (λ kind. calls.IpcRmid kind r.id) (slice_get kinds r.kind)
call_of Listing r g = option_map (λ kind. calls.Listing kind) (slice_get kinds r.kind)
call_of Interrupt r g = Some (calls.Interrupt r.id)
call_of SetCreds r g = Some (calls.SetCreds r.uid r.gid (where_more r.more g.groups))
call_of Exit r g = Some calls.Exit
call_of InterruptThread r g = Some (calls.InterruptThread r.id)
call_of Kill r g = Some (calls.Kill r.id)
call_of Assume r g = Some (calls.Assume (identity_of r g.groups))
call_of Begin r g = Some (calls.Begin r.id (identity_of r g.groups))
call_of Fork r g = Some (calls.Fork r.num r.id)
call_of Clone r g = Some (calls.Clone r.num)
call_of Name r g = Some (calls.Name r.id)
call_of Exec r g = Some calls.Exec

-- the call of a request; None where the operation has no such code either
abbrev pub call_in : RawRequest → Given → Option Call
call_in r g = option_and_then (λ op. call_of op r g) (slice_get operations r.op)
