use Rattle.std.proofs.Common.{ap, sym}
use Rattle.ipc_model.specs.Decision.{Decision, left_by, outcome_of}
use Rattle.ipc_model.specs.Messages.{chosen, take_chosen}
use Rattle.ipc_model.specs.Plan.{on_part}
use Rattle.ipc_model.specs.State.{Queues}
use Rattle.ipc_objects.specs.Objects.{with_contents}
use Rattle.msg_calls.specs.WithRoom.{queues_of}
use Rattle.msg_calls.proofs.queues.Queues.msgrcv.Goals as goal

pub returns-in-Err-clause-outcome : goal.returns-in-Err-clause-outcome
returns-in-Err-clause-outcome c =
    let queues = queues_of c.args.self.now in
    let refused = c.in-Err.ensures.refused (λ queue. on_part (with_contents queues c.args.id) (take_chosen c.args.who.now c.args.asked queue.contents (chosen queue.contents.messages c.args.asked))) in
    sym (ap (λ (d : Decision Queues). outcome_of d) refused)

pub returns-in-Err-clause-queues : goal.returns-in-Err-clause-queues
returns-in-Err-clause-queues c =
    let queues = queues_of c.args.self.now in
    let refused = c.in-Err.ensures.refused (λ queue. on_part (with_contents queues c.args.id) (take_chosen c.args.who.now c.args.asked queue.contents (chosen queue.contents.messages c.args.asked))) in
    sym (ap (λ (d : Decision Queues). left_by queues d) refused)
