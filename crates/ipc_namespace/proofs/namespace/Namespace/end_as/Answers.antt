use Rattle.std.proofs.Common.{◌+◌, length, sym, ap, subst, ◌∙◌}
use Rattle.msg_calls.specs.WithRoom.{one_if, room}
use Rattle.ipc_model.specs.State.{State, is_waiting}
use Rattle.ipc_model.specs.Step.{without}
use Rattle.ipc_parked.specs.Parked.{waiting}
use Rattle.ipc_parked.proofs.Listed.{any_waiting}
use Rattle.std.specs.Prelude.{◌==◌, not}
use Rattle.ipc_namespace.specs.contracts.namespace.Namespace.{the_view}
use Rattle.ipc_namespace.specs.Namespace.{AreHeld, is_at}
use Rattle.ipc_namespace.proofs.Held.{held-filter}
use Rattle.ipc_namespace.proofs.Leaving.{Leaves, leaves}
use Rattle.ipc_namespace.proofs.namespace.Namespace.end_as.Goals as goal
use Rattle.ipc_namespace.proofs.namespace.Namespace.end_as.Goals.{After-finish-call}

pub finish-call-requires : goal.finish-call-requires
finish-call-requires c = sym (any_waiting c.args.client c.self.inside.parked) ∙ ap (λ (s : State). is_waiting s c.args.client) c.self.view_is ∙ c.requires

left : (c : After-finish-call) → Leaves (length c.self.inside.clients.items) c.args.client c.finish-call.result (waiting c.self.inside.parked) (waiting c.finish-call.new.self)
left c = leaves (length c.self.inside.clients.items) c.args.client c.finish-call.result c.self.inside.parked c.finish-call.new.self c.self.invariant.1 c.finish-call.ensures.call c.finish-call.ensures.rest

-- a place is reserved where the call sends
pub release_in-requires : goal.release_in-requires
release_in-requires c =
    let b = (goal.at.release_in-requires c).After-finish-call in
    λ id sends. (left b).roomy id _ (ap (λ q. is_at id q) (sym c.sent_to.ensures) ∙ sends) (c.self.invariant.2 id)

pub invariant_of-self : goal.invariant_of-self
invariant_of-self c =
    let b = (goal.at.invariant_of-self c).After-finish-call in (
      c.self.invariant.0,
      (left b).parked,
      λ id. (left b).room id _ _ (ap (λ q. room c.release_in.new.queues id + one_if (is_at id q)) (sym c.sent_to.ensures) ∙ c.release_in.ensures.room id) (c.self.invariant.2 id),
      subst (λ ws. AreHeld c.self.inside.sets c.self.inside.processes.threads ws) (sym (left b).rest) (held-filter c.self.inside.sets c.self.inside.processes.threads (λ w. not (w.client == c.args.client)) (waiting c.self.inside.parked) c.self.invariant.3),
    )

pub returns-clause-state : goal.returns-clause-state
returns-clause-state c =
    let b = (goal.at.returns-clause-state c).After-finish-call in
    (λ i. record (the_view c.self.inside) { queues = c.release_in.ensures.queues i; parked = (left b).rest i })
    ∙ ap (λ (s : State). without s c.args.client) c.self.view_is

pub returns-clause-shorter : goal.returns-clause-shorter
returns-clause-shorter c = (left (goal.at.returns-clause-shorter c).After-finish-call).shorter ∙ ap (λ (s : State). length s.parked) c.self.view_is
