-- What a call waits for: of a semop the operation at which its trial stops.
use Rattle.std.specs.Prelude.{ℕ, length, Option, Some, None, option_and_then, option_map}
use Rattle.ipc_call.specs.declared.calls.Call.{Call}
use Rattle.ipc_call.specs.declared.calls.Call.TheVariants.{MsgSnd, MsgRcv, SemOp}
use Rattle.ipc_call.specs.declared.calls.SemOper.{SemOper}
use Rattle.ipc_model.specs.State.{State, waiting_of}
use Rattle.ipc_namespace.specs.Looking.{stopped_at}
use Rattle.call_reasons.specs.declared.waits.Awaited.{Awaited}
use Rattle.call_reasons.specs.declared.waits.Awaited.TheVariants.{Semaphore, Room, Message}

-- by the operation at which the call stops, where it is a semop
abbrev pub awaited_by : Option SemOper → Call → Option Awaited
awaited_by stop (MsgSnd id mtype text flags) = Some (Room id (length text))
awaited_by stop (MsgRcv id size msgtyp flags) = Some (Message id msgtyp flags)
awaited_by stop (SemOp id ops) = option_map (λ o. Semaphore id o) stop
awaited_by stop call = None

-- what the waiting call of a client waits for
abbrev pub awaited_in : State → ℕ → Option Awaited
awaited_in s client = option_and_then (λ w. awaited_by (stopped_at s client) w.call) (waiting_of s client)
