-- What can be looked at in a state without a call.
use Rattle.std.specs.Prelude.{ℕ, List, [], ◌∷◌, Option, None, option_and_then, option_map}
use Rattle.ipc_call.specs.declared.calls.Call.{Call}
use Rattle.ipc_call.specs.declared.calls.Call.TheVariants.{SemOp}
use Rattle.ipc_call.specs.declared.calls.Kind.{Kind}
use Rattle.ipc_call.specs.declared.calls.Kind.TheVariants as kinds
use Rattle.ipc_call.specs.declared.calls.SemOper.{SemOper}
use Rattle.ipc_call.specs.declared.perms.Perm.{Perm}
use Rattle.ipc_call.specs.declared.replies.Waiting.{Waiting}
use Rattle.ipc_ids.specs.Table.{Table, id_in}
use Rattle.ipc_objects.specs.declared.object.Object.{Object}
use Rattle.ipc_model.specs.State.{Sems, State, process_at, waiting_of}
use Rattle.ipc_model.specs.Gets.{object_of_key}
use Rattle.ipc_model.specs.Semaphores.{stopping}
use Rattle.ipc_parked.specs.Parked.{sooner_of}

abbrev pub key_in : {X : Type 0} → Table (Object X) → ℕ → Option (ℕ × Perm)
key_in t key = option_map (λ found. (found.0, found.1.perm)) (object_of_key t key)

-- the identifier of the object in a slot
abbrev pub object_in : State → Kind → ℕ → Option ℕ
object_in s kinds.Queue slot = id_in s.queues slot
object_in s kinds.Sems slot = id_in s.sems.sets slot
object_in s kinds.Segment slot = id_in s.shared.segments slot

-- the identifier and the permissions of the object of a key; none for key 0
abbrev pub object_with_key : State → Kind → ℕ → Option (ℕ × Perm)
object_with_key s kinds.Queue key = key_in s.queues key
object_with_key s kinds.Sems key = key_in s.sems.sets key
object_with_key s kinds.Segment key = key_in s.shared.segments key

-- the operation at which a call of a process stops that is a semop and waits
abbrev pub stop_of : Sems → ℕ → Call → Option SemOper
stop_of sems process (SemOp id ops) = stopping sems process id ops
stop_of sems process call = None

-- the operation at which the waiting semop of a client stops
abbrev pub stopped_at : State → ℕ → Option SemOper
stopped_at s client = option_and_then (λ w. stop_of s.sems (process_at s client) w.call) (waiting_of s client)

-- the soonest deadline of those that wait, where None is after all
unfoldable pub soonest : List Waiting → Option ℕ
soonest [] = None
soonest (w ∷ ws) = sooner_of w.deadline (soonest ws)
