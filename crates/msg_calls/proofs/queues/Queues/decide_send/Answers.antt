use Rattle.std.proofs.Common.{◌≡◌, pos, true, ap, sym, length, arith}
use Rattle.std.specs.Prelude.{int_le, nat_le}
use Rattle.ipc_call.specs.declared.rules.Rule.TheVariants.{BadType, QueueFull, TextTooLong}
use Rattle.ipc_call.specs.declared.replies.Answer.TheVariants.{Done}
use Rattle.ipc_model.specs.Decision.{Decision, Refused, without_answer}
use Rattle.ipc_model.specs.Messages.{has_room, with_message}
use Rattle.ipc_model.specs.Plan.{Grant, Proceeds, ◌⨾◌}
use Rattle.ipc_model.specs.State.{Message, Queues}
use Rattle.ipc_objects.specs.Objects.{with_contents}
use Rattle.object_calls.proofs.Permitted.{refused-behind}
use Rattle.msg_calls.specs.Calls.{sending}
use Rattle.msg_calls.specs.WithRoom.{queues_of}
use Rattle.msg_calls.proofs.queues.Queues.decide_send.Goals as goal

pub returns-in-Err : goal.returns-in-Err
returns-in-Err c text long =
    let queues = queues_of c.args.self.now in
    let who = c.args.who.now in
    let asked = c.args.asked in
    let limits = c.args.limits.now in
    let message : Message = record { mtype = asked.mtype; text = text } in
    let typed : int_le (pos 1) asked.mtype ≡ true = grind (arith, c.if-asked-lt1.false) in
    let short : nat_le (length text) limits.msg_max ≡ true = grind (arith, long, c.if-asked-from.false, c.from.ensures) in
    let refused = c.in-Err.ensures.refused (λ queue. Proceeds (has_room queue.contents message) asked.flags QueueFull _
    ⨾ Grant Done (with_contents queues c.args.id (with_message who message queue.contents))) in
    let all : sending limits queues who c.args.id asked.flags message ≡ Refused c.in-Err.rule =
    refused-behind (int_le (pos 1) asked.mtype) _ BadType c.in-Err.rule typed
    (refused-behind (nat_le (length text) limits.msg_max) _ TextTooLong c.in-Err.rule short refused) in
    sym (ap (λ (d : Decision Queues). without_answer d) all)
