use Rattle.std.proofs.Common.{◌≡◌, sym, ap, ◌∙◌}
use Rattle.ipc_model.specs.State.{Queue}
use Rattle.ipc_model.specs.Decision.{left_by, outcome_of}
use Rattle.ipc_model.specs.Messages.{chosen, take_chosen}
use Rattle.ipc_model.proofs.Plans.{left-on, outcome-on}
use Rattle.ipc_objects.specs.Objects.{with_contents}
use Rattle.ipc_objects.proofs.Seen.{contents-same}
use Rattle.msg_calls.specs.Calls.{taking_in}
use Rattle.msg_calls.specs.WithRoom.{queues_of}
use Rattle.msg_calls.proofs.Holding.{changed-queues, contents-at, not-absent, room-same, told-of}
use Rattle.msg_calls.proofs.queues.Queues.take_chosen.Goals as goal

pub unreachable-requires : goal.unreachable-requires
unreachable-requires c = not-absent c.self.inside.objects c.args.self.now c.self.view_is c.args.id c.in_default.ensures.value c.requires

pub returns-clause-outcome : goal.returns-clause-outcome
returns-clause-outcome c =
    let now = c.args.self.now in
    let who = c.args.who.now in
    let old = c.in-Some.queue.now in
    let asked = c.args.asked in
    told-of c.self.inside.objects now c.self.view_is c.args.id old c.in-Some.ensures.value
    (λ (q : Queue). c.take_chosen.result ≡ outcome_of (taking_in (queues_of now) c.args.id who asked q))
    (c.take_chosen.ensures.outcome
    ∙ sym (outcome-on who.creds (with_contents (queues_of now) c.args.id) (take_chosen who asked old.queue (chosen old.queue.messages asked))))

pub returns-clause-queues : goal.returns-clause-queues
returns-clause-queues c =
    let now = c.args.self.now in
    let who = c.args.who.now in
    let old = c.in-Some.queue.now in
    let new = c.take_chosen.new.self in
    let asked = c.args.asked in
    let there = c.in-Some.ensures.value in
    let put = with_contents (queues_of now) c.args.id in
    told-of c.self.inside.objects now c.self.view_is c.args.id old there
    (λ (q : Queue). queues_of (with_contents c.self.inside.objects c.args.id new) ≡ left_by (queues_of now) (taking_in (queues_of now) c.args.id who asked q))
    (changed-queues c.self.inside.objects now c.self.view_is c.args.id old there new ∙ ap put c.take_chosen.ensures.queue
    ∙ sym (left-on who.creds put (take_chosen who asked old.queue (chosen old.queue.messages asked)) old.queue (queues_of now)
    (contents-same (queues_of now) c.args.id old.queue (contents-at c.self.inside.objects now c.self.view_is c.args.id old there))))

pub returns-clause-room : goal.returns-clause-room
returns-clause-room c = room-same c.self.inside.objects c.args.self.now c.self.view_is c.args.id c.in-Some.queue.now c.in-Some.ensures.value c.take_chosen.new.self c.take_chosen.ensures.reserved
