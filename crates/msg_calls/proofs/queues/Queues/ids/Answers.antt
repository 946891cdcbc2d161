use Rattle.std.proofs.Common.{sym, ap, ◌∙◌}
use Rattle.std.proofs.lemmas.Result.{IfOk-weaker}
use Rattle.ipc_ids.specs.Table.{Table, ids_of}
use Rattle.ipc_objects.specs.declared.object.Object.{Object}
use Rattle.ipc_objects.proofs.Seen.{ids_of-seen}
use Rattle.msg_calls.specs.WithRoom.{QueueWithRoom, queue_of, queues_of}
use Rattle.msg_calls.proofs.queues.Queues.ids.Goals as goal

pub returns : goal.returns
returns c =
    IfOk-weaker c.ids.result _ _
    (λ ids told. told ∙ sym (ids_of-seen queue_of c.self.inside.objects) ∙ ap (λ (t : Table (Object QueueWithRoom)). ids_of (queues_of t)) c.self.view_is) c.ids.ensures
