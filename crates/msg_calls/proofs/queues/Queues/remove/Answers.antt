use Rattle.std.proofs.Common.{ap, ◌∙◌}
use Rattle.ipc_ids.specs.Table.{Table, without_object}
use Rattle.ipc_objects.specs.declared.object.Object.{Object}
use Rattle.ipc_objects.proofs.Seen.{removed-seen}
use Rattle.msg_calls.specs.WithRoom.{QueueWithRoom, queue_of, queues_of, room}
use Rattle.msg_calls.proofs.Holding.{room-gone, there-of}
use Rattle.msg_calls.proofs.queues.Queues.remove.Goals as goal

pub remove-requires : goal.remove-requires
remove-requires c = there-of c.self.inside.objects c.args.self.now c.self.view_is c.args.id c.requires.there

pub returns-clause-queues : goal.returns-clause-queues
returns-clause-queues c =
    ap (λ (t : Table (Object QueueWithRoom)). queues_of t) c.remove.ensures.removed ∙ removed-seen queue_of c.self.inside.objects c.args.id ∙ ap (λ (t : Table (Object QueueWithRoom)). without_object (queues_of t) c.args.id) c.self.view_is

pub returns-clause-room : goal.returns-clause-room
returns-clause-room c = λ j. ap (λ (t : Table (Object QueueWithRoom)). room t j) c.remove.ensures.removed ∙ room-gone c.self.inside.objects c.args.self.now c.self.view_is c.args.id c.requires.unreserved j
