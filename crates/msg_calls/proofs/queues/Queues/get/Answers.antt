use Rattle.std.proofs.Common.{ap, ◌∙◌}
use Rattle.std.specs.Prelude.{option_map}
use Rattle.ipc_objects.specs.Seen.{seen}
use Rattle.msg_calls.specs.WithRoom.{queue_of}
use Rattle.msg_calls.proofs.Holding.{queue-at}
use Rattle.msg_calls.proofs.queues.Queues.get.Goals as goal

pub returns : goal.returns
returns c = ap (option_map (seen queue_of)) c.get.ensures ∙ queue-at c.self.inside.objects c.args.self.now c.self.view_is c.args.id
