use Rattle.std.proofs.Common.{ℕ, refl, sym, ap, ◌∙◌, Option}
use Rattle.ipc_objects.specs.declared.object.Object.{Object}
use Rattle.ipc_objects.specs.Seen.{seen}
use Rattle.ipc_model.specs.State.{Queue}
use Rattle.ipc_model.specs.Decision.{outcome_of}
use Rattle.msg_calls.specs.Calls.{getting_found}
use Rattle.msg_calls.specs.WithRoom.{queue_of, queues_of}
use Rattle.msg_calls.proofs.queues.Queues.msgget.Goals as goal

pub returns-in-Some-clause-outcome : goal.returns-in-Some-clause-outcome
returns-in-Some-clause-outcome c =
    let who = c.args.who.now in
    let t = queues_of c.args.self.now in
    let limits = c.args.limits.now in
    ap (λ (o : Option (ℕ × Object Queue)). outcome_of (getting_found limits t who c.args.asked o)) (sym c.in-Some.ensures)
    ∙ c.found_queue.ensures.outcome t c.args.asked.key limits (seen queue_of c.in-Some.queue.now) refl
