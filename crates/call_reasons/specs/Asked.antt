-- What a call asks of the object that it names: the need of its plan, as ipc_model has it.
use Rattle.std.specs.Prelude.{◌≡◌, ℕ, List, [], ◌∷◌, Option, Some, None, option_map}
use Rattle.ipc_call.specs.declared.calls.Call.{Call}
use Rattle.ipc_call.specs.declared.calls.Call.TheVariants.{MsgGet, MsgSnd, MsgRcv, SemGet, SemOp, SemTimedOp, GetVal, GetPid, GetNcnt, GetZcnt, GetAll, SetVal, SetAll, ShmGet, ShmAt, IpcStat, IpcSet, IpcRmid}
use Rattle.ipc_call.specs.declared.calls.Kind.{Kind}
use Rattle.ipc_call.specs.declared.calls.Kind.TheVariants as kinds
use Rattle.ipc_call.specs.declared.perms.Perm.{Perm}
use Rattle.ipc_perm.specs.declared.access.Want.{Want}
use Rattle.ipc_perm.specs.Access.{Control, Need, Permission, asked_of, to_alter, to_read}
use Rattle.ipc_model.specs.Controls.{perm_of}
use Rattle.ipc_model.specs.Segments.{wanted_to_attach}
use Rattle.ipc_model.specs.Semaphores.{wanted_by}
use Rattle.ipc_model.specs.State.{State}
use Rattle.ipc_namespace.specs.Looking.{object_with_key}
use Rattle.call_reasons.specs.declared.asked.Asked.{Asked}
use Rattle.call_reasons.specs.declared.asked.Target.{Target}
use Rattle.call_reasons.specs.declared.asked.Target.TheVariants.{Id, Key}
use Rattle.call_reasons.specs.declared.cases.NamedObject.{NamedObject}

abbrev pub at_id : Kind → ℕ → Want → Option Asked
at_id kind id want = Some (record { target = Id kind id; want = want })

abbrev pub at_key : Kind → ℕ → ℕ → Option Asked
at_key kind key flags = Some (record { target = Key kind key; want = asked_of flags })

-- the object that a call names, and the permissions that it needs there
abbrev pub asked_in : Call → Option Asked
asked_in (MsgGet key flags) = at_key kinds.Queue key flags
asked_in (MsgSnd id mtype text flags) = at_id kinds.Queue id to_alter
asked_in (MsgRcv id size msgtyp flags) = at_id kinds.Queue id to_read
asked_in (SemGet key nsems flags) = at_key kinds.Sems key flags
asked_in (SemOp id ops) = at_id kinds.Sems id (wanted_by ops)
asked_in (SemTimedOp id ops timeout) = at_id kinds.Sems id (wanted_by ops)
asked_in (GetVal id num) = at_id kinds.Sems id to_read
asked_in (GetPid id num) = at_id kinds.Sems id to_read
asked_in (GetNcnt id num) = at_id kinds.Sems id to_read
asked_in (GetZcnt id num) = at_id kinds.Sems id to_read
asked_in (GetAll id) = at_id kinds.Sems id to_read
asked_in (SetVal id num value) = at_id kinds.Sems id to_alter
asked_in (SetAll id values) = at_id kinds.Sems id to_alter
asked_in (ShmGet key size flags) = at_key kinds.Segment key flags
asked_in (ShmAt id flags) = at_id kinds.Segment id (wanted_to_attach flags)
asked_in (IpcStat kind id) = at_id kind id to_read
asked_in call = None

-- the object that a call needs control of
abbrev pub controlled_in : Call → Option (Kind × ℕ)
controlled_in (IpcSet kind id uid gid mode qbytes) = Some (kind, id)
controlled_in (IpcRmid kind id) = Some (kind, id)
controlled_in call = None

-- the object of an identifier or a key in a state
abbrev pub named : State → Target → Option NamedObject
named s (Id kind id) = option_map (λ perm. record { kind = kind; id = id; perm = perm }) (perm_of s kind id)
named s (Key kind key) =
    option_map (λ found. record { kind = kind; id = found.0; perm = found.1 }) (object_with_key s kind key)

-- what a call needs that asks for permissions: these on the object, where there is one
abbrev pub permission_of : Want → Option NamedObject → List Need
permission_of want None = []
permission_of want (Some object) = Permission object.perm want ∷ []

-- what a call needs that asks for control: control of the object, where there is one, before all else
abbrev pub NeedsControl : List Need → Option Perm → Type 0
NeedsControl needs None = needs ≡ []
NeedsControl needs (Some perm) = (more : List Need) × (needs ≡ Control perm ∷ more)
