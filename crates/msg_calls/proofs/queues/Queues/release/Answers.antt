use Rattle.std.proofs.Common.{◌≡◌, ◌-◌, arith, ap}
use Rattle.msg_calls.specs.WithRoom.{QueueWithRoom}
use Rattle.msg_calls.proofs.Holding.{reserved-of, room-less, same-queues}
use Rattle.msg_calls.proofs.queues.Queues.release.Goals as goal

pub returns-clause-queues : goal.returns-clause-queues
returns-clause-queues c = same-queues c.self.inside.objects c.args.self.now c.self.view_is c.args.id c.in-Some.queue.now c.in-Some.ensures.value c.release.new.self (ap (λ (h : QueueWithRoom). h.queue) c.release.ensures)

pub returns-clause-room : goal.returns-clause-room
returns-clause-room c =
    let old = c.in-Some.queue.now in
    let less : c.release.new.self.reserved ≡ old.reserved - 1 = ap (λ (h : QueueWithRoom). h.reserved) c.release.ensures in
    let some = reserved-of c.self.inside.objects c.args.self.now c.self.view_is c.args.id old c.in-Some.ensures.value c.requires in
    room-less c.self.inside.objects c.args.self.now c.self.view_is c.args.id old c.in-Some.ensures.value c.release.new.self (omega (arith, less, some))
