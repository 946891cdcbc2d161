-- What is told of objects without a call.
use Rattle.std.specs.Prelude.{ℕ, ◌+◌, ◌-◌, ◌^◌, min, nat_lt, Bool, true, false, List, [], ◌∷◌, filter, filter_map, length, map, Option, None, Some, option_map, if◌then◌else◌}
use Rattle.std.specs.FinMap as finite
use Rattle.std.specs.List.{range_with_len}
use Rattle.ipc_call.specs.declared.calls.Kind.{Kind}
use Rattle.ipc_call.specs.declared.calls.Kind.TheVariants as kinds
use Rattle.ipc_call.specs.declared.limits.Limits.{Limits}
use Rattle.ipc_call.specs.declared.perms.Perm.{Perm}
use Rattle.ipc_call.specs.declared.replies.Status.{Status}
use Rattle.ipc_call.specs.declared.replies.Status.TheVariants as statuses
use Rattle.ipc_call.specs.declared.rules.Rule.{Rule}
use Rattle.ipc_call.specs.declared.rules.Rule.TheVariants.{BadId}
use Rattle.ipc_model.specs.Controls.{status_of}
use Rattle.ipc_model.specs.State.{State}
use Rattle.ipc_namespace.specs.Looking.{object_in}
use Rattle.ipc_perm.specs.Access.{Permission, denial, to_read}
use Rattle.ipc_server.specs.declared.looks.Totals.{Totals}
use Rattle.ipc_server.specs.declared.peers.Peer.{Peer}
use Rattle.ipc_server.specs.Servers.{Server, state}
use Rattle.ipc_wire.specs.Calls.{id_of}
use Rattle.ipc_wire.specs.declared.requests.Look.{Look}
use Rattle.ipc_wire.specs.declared.requests.Look.TheVariants as looks
use Rattle.ipc_wire.specs.declared.told.Told.{Told}
use Rattle.ipc_wire.specs.declared.told.Told.TheVariants as told

-- what a kind counts: messages, semaphores or bytes
abbrev pub amount_in : Status → ℕ
amount_in (statuses.Queue status) = status.qnum
amount_in (statuses.Set status) = status.nsems
amount_in (statuses.Segment status) = status.size

abbrev pub amount_of : Option (Perm × Status) → ℕ
amount_of None = 0
amount_of (Some found) = amount_in found.1

-- how many semaphores a set has
abbrev pub nsems_told : Option (Perm × Status) → Told
nsems_told None = told.Refused BadId
nsems_told (Some found) = told.Nsems (amount_in found.1)

abbrev pub or_denied : Option Rule → Told → Told
or_denied None granted = granted
or_denied (Some rule) granted = told.Refused rule

abbrev pub read_denial : Peer → Perm → Bool → Option Rule
read_denial peer perm any = if any then None else denial peer.creds (Permission perm to_read)

-- an object with its state, which who has no right to read it is told only where he asks for it so
abbrev pub status_told : Peer → ℕ → Bool → Option (Perm × Status) → Told
status_told peer id any None = told.Refused BadId
status_told peer id any (Some found) =
    or_denied (read_denial peer found.0 any) (told.At id found.1)

abbrev pub object_told : State → Peer → Kind → Bool → Option ℕ → Told
object_told s peer kind any None = told.Refused BadId
object_told s peer kind any (Some id) = status_told peer id any (status_of s kind id)

-- how many slots a kind has
abbrev pub slots_of : Limits → Kind → ℕ
slots_of limits kinds.Queue = limits.queues
slots_of limits kinds.Sems = limits.sets
slots_of limits kinds.Segment = limits.segments

-- no namespace has as many slots as that
abbrev pub object_there : State → Kind → ℕ → Option ℕ
object_there s kind slot = if nat_lt slot 65536 then object_in s kind slot else None

-- the totals of a kind in some slots: the highest that is in use, how many are, and the sum of what they count
-- a number of 64 bits stays at the highest
abbrev pub at_most_64 : ℕ → ℕ
at_most_64 n = min n (2 ^ 64 - 1)

abbrev pub no_totals : Totals
no_totals = record { highest = 0; objects = 0; amount = 0 }

abbrev pub with_object : State → Kind → ℕ → Option ℕ → Totals → Totals
with_object s kind slot None t = t
with_object s kind slot (Some id) t =
    record { highest = slot; objects = at_most_64 (t.objects + 1); amount = at_most_64 (t.amount + amount_of (status_of s kind id)) }

unfoldable pub totals_in : State → Kind → List ℕ → Totals → Totals
totals_in s kind [] t = t
totals_in s kind (slot ∷ slots) t = totals_in s kind slots (with_object s kind slot (object_there s kind slot) t)

abbrev pub totals : Server → Kind → Totals
totals s kind = totals_in (state s) kind (range_with_len 0 (slots_of s.history.limits kind)) no_totals

abbrev pub totals_told : Totals → Told
totals_told t = told.Totals t.highest t.objects t.amount

abbrev pub look_told : Server → Peer → Look → Told
look_told s peer (looks.Nsems id) = nsems_told (status_of (state s) kinds.Sems (id_of id))
look_told s peer (looks.At kind slot any) = object_told (state s) peer kind any (object_there (state s) kind slot)
look_told s peer (looks.Totals kind) = totals_told (totals s kind)
