use Rattle.std.proofs.Common.{◌≡◌, false, length, w64, sym, ap, subst, ◌∙◌, arith}
use mir.Val.{to_z, of_z}
use Rattle.std.specs.Prelude.{OnErr, Result, Ok, Err}
use Rattle.std.proofs.lemmas.Int.{to_z-of_z}
use Rattle.ipc_model.specs.State.{Queue}
use Rattle.ipc_model.specs.Messages.{with_message}
use Rattle.ipc_objects.specs.Objects.{with_contents}
use Rattle.ipc_objects.proofs.Seen.{contents-same}
use Rattle.msg_queue.specs.Messages.{is_full}
use Rattle.msg_calls.specs.WithRoom.{QueueWithRoom, queues_of}
use Rattle.msg_calls.proofs.Holding.{changed-queues, not-absent, room-same, told-back, told-of}
use Rattle.msg_calls.proofs.queues.Queues.send.Goals as goal

pub unreachable-requires : goal.unreachable-requires
unreachable-requires c = not-absent c.self.inside.objects c.args.self.now c.self.view_is c.args.id c.in_default.ensures.value c.requires.there

pub returns-in_err-reserve-clause-room : goal.returns-in_err-reserve-clause-room
returns-in_err-reserve-clause-room c =
    room-same c.self.inside.objects c.args.self.now c.self.view_is c.args.id c.in-Some.queue.now c.in-Some.ensures.value c.reserve.new.self (ap (λ (h : QueueWithRoom). h.reserved) c.in_err-reserve.ensures.err)

anyway : {T E : Type 0} (r : Result T E) (P : Type 0) → P → OnErr r P
anyway (Ok x) P p = tt
anyway (Err e) P p = p

pub returns-in_err-reserve-clause-err : goal.returns-in_err-reserve-clause-err
returns-in_err-reserve-clause-err c = anyway c.from_residual.result _
    (ap (λ (h : QueueWithRoom). with_contents c.self.inside.objects c.args.id h) c.in_err-reserve.ensures.err ∙ contents-same c.self.inside.objects c.args.id c.in-Some.queue.now (sym c.in-Some.ensures.value) ∙ c.self.view_is)

pub send-requires-clause-room : goal.send-requires-clause-room
send-requires-clause-room c =
    subst (λ (h : QueueWithRoom). is_full h.queue.messages h.queue.qbytes (length c.args.text) ≡ false) (sym c.in_ok-reserve.ensures.ok)
    (told-back c.self.inside.objects c.args.self.now c.self.view_is c.args.id c.in-Some.queue.now c.in-Some.ensures.value (λ (q : Queue). is_full q.messages q.qbytes (length c.args.text) ≡ false) c.requires.room)

pub returns-clause-queues : goal.returns-clause-queues
returns-clause-queues c =
    let old = c.in-Some.queue.now in
    let now = c.args.self.now in
    told-of c.self.inside.objects now c.self.view_is c.args.id old c.in-Some.ensures.value
    (λ (q : Queue). queues_of (with_contents c.self.inside.objects c.args.id c.send.new.self) ≡ with_contents (queues_of now) c.args.id (with_message c.args.who.now (record { mtype = c.args.mtype; text = c.args.text }) q))
    (changed-queues c.self.inside.objects now c.self.view_is c.args.id old c.in-Some.ensures.value c.send.new.self
    ∙ ap (λ (q : Queue). with_contents (queues_of now) c.args.id q) c.send.ensures.queue
    ∙ ap (λ (h : QueueWithRoom). with_contents (queues_of now) c.args.id (with_message c.args.who.now (record { mtype = to_z w64 (of_z w64 c.args.mtype); text = c.args.text }) h.queue)) c.in_ok-reserve.ensures.ok
    ∙ ap (λ z. with_contents (queues_of now) c.args.id (with_message c.args.who.now (record { mtype = z; text = c.args.text }) old.queue)) (to_z-of_z w64 c.args.mtype c.ranges.mtype))

pub returns-clause-room : goal.returns-clause-room
returns-clause-room c =
    let more = ap (λ (h : QueueWithRoom). h.reserved) c.in_ok-reserve.ensures.ok in
    room-same c.self.inside.objects c.args.self.now c.self.view_is c.args.id c.in-Some.queue.now c.in-Some.ensures.value c.send.new.self (omega (arith, more, c.send.ensures.reserved))
