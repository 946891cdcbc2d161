use Rattle.std.proofs.Common.{sym, ap, ◌∙◌}
use Rattle.ipc_ids.specs.Table.{Table, next_id}
use Rattle.ipc_objects.specs.declared.object.Object.{Object}
use Rattle.ipc_objects.proofs.Seen.{next_id-seen}
use Rattle.msg_calls.specs.WithRoom.{QueueWithRoom, queue_of, queues_of}
use Rattle.msg_calls.proofs.queues.Queues.next_id.Goals as goal

pub returns : goal.returns
returns c = c.next_id.ensures ∙ sym (next_id-seen queue_of c.self.inside.objects) ∙ ap (λ (t : Table (Object QueueWithRoom)). next_id (queues_of t)) c.self.view_is
