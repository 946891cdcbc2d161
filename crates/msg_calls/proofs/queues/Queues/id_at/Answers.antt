use Rattle.std.proofs.Common.{sym, ap, ◌∙◌}
use Rattle.ipc_ids.specs.Table.{Table, id_in}
use Rattle.ipc_objects.specs.declared.object.Object.{Object}
use Rattle.ipc_objects.proofs.Seen.{id_in-seen}
use Rattle.msg_calls.specs.WithRoom.{QueueWithRoom, queue_of, queues_of}
use Rattle.msg_calls.proofs.queues.Queues.id_at.Goals as goal

pub returns : goal.returns
returns c =
    c.id_at.ensures ∙ sym (id_in-seen queue_of c.self.inside.objects c.args.slot) ∙ ap (λ (t : Table (Object QueueWithRoom)). id_in (queues_of t) c.args.slot) c.self.view_is
