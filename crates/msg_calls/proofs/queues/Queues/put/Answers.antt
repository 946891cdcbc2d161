use Rattle.std.proofs.Common.{◌≡◌, false, length, w64, ap, ◌∙◌}
use Rattle.std.proofs.lemmas.Int.{to_z-of_z}
use Rattle.ipc_model.specs.State.{Queue}
use Rattle.ipc_model.specs.Messages.{with_message}
use Rattle.ipc_objects.specs.Objects.{with_contents}
use Rattle.msg_queue.specs.Messages.{is_full}
use Rattle.msg_calls.specs.WithRoom.{queues_of}
use Rattle.msg_calls.proofs.Holding.{changed-queues, room-less, told-back, told-of}
use Rattle.msg_calls.proofs.queues.Queues.put.Goals as goal

pub send-requires-clause-room : goal.send-requires-clause-room
send-requires-clause-room c =
    told-back c.self.inside.objects c.args.self.now c.self.view_is c.args.id c.in-Some.queue.now c.in-Some.ensures.value (λ (q : Queue). is_full q.messages q.qbytes (length c.args.text) ≡ false) c.requires.room

pub returns-clause-queues : goal.returns-clause-queues
returns-clause-queues c =
    let old = c.in-Some.queue.now in
    let now = c.args.self.now in
    told-of c.self.inside.objects now c.self.view_is c.args.id old c.in-Some.ensures.value
    (λ (q : Queue). queues_of (with_contents c.self.inside.objects c.args.id c.send.new.self) ≡ with_contents (queues_of now) c.args.id (with_message c.args.who.now (record { mtype = c.args.mtype; text = c.args.text }) q))
    (changed-queues c.self.inside.objects now c.self.view_is c.args.id old c.in-Some.ensures.value c.send.new.self
    ∙ ap (λ (q : Queue). with_contents (queues_of now) c.args.id q) c.send.ensures.queue
    ∙ ap (λ z. with_contents (queues_of now) c.args.id (with_message c.args.who.now (record { mtype = z; text = c.args.text }) old.queue)) (to_z-of_z w64 c.args.mtype c.ranges.mtype))

pub returns-clause-room : goal.returns-clause-room
returns-clause-room c = room-less c.self.inside.objects c.args.self.now c.self.view_is c.args.id c.in-Some.queue.now c.in-Some.ensures.value c.send.new.self c.send.ensures.reserved
