use Rattle.std.proofs.Common.{ap, ◌∙◌}
use Rattle.ipc_ids.specs.Table.{Table}
use Rattle.ipc_objects.specs.declared.object.Object.{Object}
use Rattle.ipc_objects.proofs.Seen.{empty-seen}
use Rattle.msg_calls.specs.WithRoom.{QueueWithRoom, queue_of, queues_of, room}
use Rattle.msg_calls.proofs.Holding.{room-empty}
use Rattle.msg_calls.proofs.queues.Queues.new.Goals as goal

pub returns-clause-queues : goal.returns-clause-queues
returns-clause-queues c = ap (λ (t : Table (Object QueueWithRoom)). queues_of t) c.new.ensures ∙ empty-seen queue_of c.args.slots c.args.first_seq

pub returns-clause-room : goal.returns-clause-room
returns-clause-room c = λ id. ap (λ (t : Table (Object QueueWithRoom)). room t id) c.new.ensures ∙ room-empty c.args.slots c.args.first_seq id
