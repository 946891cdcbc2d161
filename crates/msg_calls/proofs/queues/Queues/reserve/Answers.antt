use Rattle.std.proofs.Common.{sym, ap, ◌∙◌}
use Rattle.std.proofs.lemmas.Result.{on_err_weaker, on_ok_weaker}
use Rattle.ipc_objects.specs.Objects.{with_contents}
use Rattle.ipc_objects.proofs.Seen.{contents-same}
use Rattle.msg_calls.specs.WithRoom.{QueueWithRoom}
use Rattle.msg_calls.proofs.Holding.{not-absent, room-more, same-queues}
use Rattle.msg_calls.proofs.queues.Queues.reserve.Goals as goal

pub unreachable-requires : goal.unreachable-requires
unreachable-requires c = not-absent c.self.inside.objects c.args.self.now c.self.view_is c.args.id c.in_default.ensures.value c.requires

pub returns-clause-queues : goal.returns-clause-queues
returns-clause-queues c =
    on_ok_weaker c.reserve.result (λ is. same-queues c.self.inside.objects c.args.self.now c.self.view_is c.args.id c.in-Some.queue.now c.in-Some.ensures.value c.reserve.new.self (ap (λ (h : QueueWithRoom). h.queue) is)) c.reserve.ensures.ok

pub returns-clause-room : goal.returns-clause-room
returns-clause-room c =
    on_ok_weaker c.reserve.result (λ is. room-more c.self.inside.objects c.args.self.now c.self.view_is c.args.id c.in-Some.queue.now c.in-Some.ensures.value c.reserve.new.self (ap (λ (h : QueueWithRoom). h.reserved) is)) c.reserve.ensures.ok

pub returns-clause-err : goal.returns-clause-err
returns-clause-err c =
    on_err_weaker c.reserve.result (λ is. ap (λ (h : QueueWithRoom). with_contents c.self.inside.objects c.args.id h) is ∙ contents-same c.self.inside.objects c.args.id c.in-Some.queue.now (sym c.in-Some.ensures.value) ∙ c.self.view_is) c.reserve.ensures.err
