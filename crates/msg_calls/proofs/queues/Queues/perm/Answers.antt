use Rattle.std.proofs.Common.{sym, ap, ◌∙◌}
use Rattle.ipc_ids.specs.Table.{Table}
use Rattle.ipc_objects.specs.declared.object.Object.{Object}
use Rattle.ipc_objects.proofs.Seen.{perm-seen}
use Rattle.ipc_model.specs.Controls.{perm_in}
use Rattle.msg_calls.specs.WithRoom.{QueueWithRoom, queue_of, queues_of}
use Rattle.msg_calls.proofs.queues.Queues.perm.Goals as goal

pub returns : goal.returns
returns c = c.perm.ensures ∙ sym (perm-seen queue_of c.self.inside.objects c.args.id) ∙ ap (λ (t : Table (Object QueueWithRoom)). perm_in (queues_of t) c.args.id) c.self.view_is
