use Rattle.std.proofs.Common.{ap, ◌∙◌}
use Rattle.ipc_ids.specs.Table.{Table}
use Rattle.ipc_objects.specs.declared.object.Object.{Object}
use Rattle.ipc_objects.proofs.Seen.{changed-there}
use Rattle.msg_calls.specs.WithRoom.{QueueWithRoom, queues_of, room}
use Rattle.msg_calls.proofs.Holding.{changed-settings, not-absent, room-owned, room-same, there-of}
use Rattle.msg_calls.proofs.queues.Queues.set.Goals as goal

pub unreachable-requires : goal.unreachable-requires
unreachable-requires c = not-absent c.self.inside.objects c.args.self.now c.self.view_is c.args.id c.in_default.ensures.value c.requires

pub set_owner-requires : goal.set_owner-requires
set_owner-requires c =
    changed-there c.self.inside.objects c.args.id (λ o. record o { contents = c.set_qbytes.new.self }) ∙ there-of c.self.inside.objects c.args.self.now c.self.view_is c.args.id c.requires

pub returns-clause-queues : goal.returns-clause-queues
returns-clause-queues c =
    ap (λ (t : Table (Object QueueWithRoom)). queues_of t) c.set_owner.ensures
    ∙ changed-settings c.self.inside.objects c.args.self.now c.self.view_is c.args.id c.in-Some.queue.now c.in-Some.ensures.value c.set_qbytes.new.self c.args.new c.owner_of.result c.args.now
    c.owner_of.ensures c.set_qbytes.ensures.queue

pub returns-clause-room : goal.returns-clause-room
returns-clause-room c = λ j.
    ap (λ (t : Table (Object QueueWithRoom)). room t j) c.set_owner.ensures ∙ room-owned _ c.args.id c.owner_of.result c.args.now j
    ∙ room-same c.self.inside.objects c.args.self.now c.self.view_is c.args.id c.in-Some.queue.now c.in-Some.ensures.value c.set_qbytes.new.self c.set_qbytes.ensures.reserved j
