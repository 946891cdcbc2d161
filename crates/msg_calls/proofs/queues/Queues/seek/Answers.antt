use Rattle.std.proofs.Common.{ℕ, sym, ap, ◌∙◌}
use Rattle.std.specs.Prelude.{option_map}
use Rattle.ipc_ids.specs.Table.{Table}
use Rattle.ipc_objects.specs.declared.object.Object.{Object}
use Rattle.ipc_objects.specs.Seen.{seen}
use Rattle.ipc_objects.proofs.Seen.{find-seen}
use Rattle.ipc_model.specs.State.{Queue}
use Rattle.ipc_model.specs.Gets.{object_of_key}
use Rattle.msg_calls.specs.WithRoom.{QueueWithRoom, queue_of, queues_of}
use Rattle.msg_calls.proofs.Holding.{seen-of}
use Rattle.msg_calls.proofs.queues.Queues.seek.Goals as goal

pub returns : goal.returns
returns c =
    seen-of (λ b. b.now) c.seek.result ∙ ap (option_map {U = ℕ × Object Queue} (λ (found : ℕ × Object QueueWithRoom). (found.0, seen queue_of found.1))) c.seek.ensures.found
    ∙ sym (find-seen queue_of c.self.inside.objects c.args.key) ∙ ap (λ (t : Table (Object QueueWithRoom)). object_of_key (queues_of t) c.args.key) c.self.view_is
