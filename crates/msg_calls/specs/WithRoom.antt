-- A queue with the places that are reserved in it for messages of calls that wait, and the table of such.
use Rattle.std.specs.Prelude.{ℕ, Bool, option_map, unwrap_or, if◌then◌else◌}
use Rattle.ipc_ids.specs.Table.{Table}
use Rattle.ipc_model.specs.State.{Queue, Queues}
use Rattle.ipc_objects.specs.declared.object.Object.{Object}
use Rattle.ipc_objects.specs.Objects.{contents_of}
use Rattle.ipc_objects.specs.Seen.{all_seen}

pub record QueueWithRoom : Type 0 where
  pub queue : Queue
  pub reserved : ℕ

-- the queue alone, as the state of a namespace has it
abbrev pub queue_of : QueueWithRoom → Queue
queue_of held = held.queue

abbrev pub queues_of : Table (Object QueueWithRoom) → Queues
queues_of t = all_seen queue_of t

-- how many places the queue of an identifier has reserved; none where there is no queue
abbrev pub room : Table (Object QueueWithRoom) → ℕ → ℕ
room t id = unwrap_or (option_map (λ held. held.reserved) (contents_of t id)) 0

abbrev pub one_if : Bool → ℕ
one_if b = if b then 1 else 0
