use Rattle.std.proofs.Common.{◌≡◌, false, List, sym, ap, subst, ◌∙◌, Some, Err}
use Rattle.ipc_call.specs.declared.calls.Call.TheVariants.{IpcRmid}
use Rattle.std.specs.List.{AllByRecursion}
use Rattle.ipc_call.specs.declared.calls.Kind.{Kind}
use Rattle.ipc_call.specs.declared.calls.Kind.TheVariants as kinds
use Rattle.ipc_call.specs.declared.replies.Waiting.{Waiting}
use Rattle.ipc_creds.specs.Credentials.{Credentials}
use Rattle.ipc_model.specs.Cancelled.{waits_on}
use Rattle.ipc_model.specs.State.{State}
use Rattle.ipc_parked.specs.Parked.{waiting}
use Rattle.ipc_model.specs.Plan.{decision}
use Rattle.ipc_model.specs.Decide.{decide_alive as decide, part_plan}
use Rattle.ipc_model.specs.Controls.{remove_object}
use Rattle.ipc_model.specs.Decision.{without_answer}
use Rattle.ipc_namespace.specs.Namespace.{cancelled_as, kept_by, sends_on}
use Rattle.ipc_namespace.specs.declared.cancelling.Cancelling.TheVariants as cancellings
use Rattle.ipc_namespace.proofs.Held.{held-elsewhere, none_there}
use Rattle.ipc_namespace.proofs.Moving.{creds-read, refused-ended, refused-state}
use Rattle.ipc_namespace.proofs.Reserved.{none_left}
use Rattle.ipc_namespace.proofs.Expiring.{told-none}
use Rattle.ipc_namespace.proofs.namespace.Namespace.remove.Goals as goal
use Rattle.ipc_namespace.proofs.namespace.Namespace.remove.Goals.{After-from_residual, After-may_remove}

verdict : (c : After-may_remove) → without_answer (decide c.args.self.now c.args.client (IpcRmid c.args.kind c.args.id)) ≡ Some c.may_remove.result
unfolding part_plan
verdict c =
    let known = creds-read _ c.args.self.now c.args.client c.index.result.now c.self.view_is c.requires.known c.index.ensures in
    ap (λ (creds : Credentials). without_answer (decision creds (remove_object c.args.self.now c.args.kind c.args.id))) (sym known) ∙ c.may_remove.ensures

refused : (c : After-from_residual) → without_answer (decide c.args.self.now c.args.client (IpcRmid c.args.kind c.args.id)) ≡ Some (Err c.in_err-may_remove.field-0.0)
refused c = verdict (goal.at.After-from_residual c).After-may_remove ∙ ap (λ r. Some r) c.in_err-may_remove.was

pub returns-in_err-may_remove-clause-state : goal.returns-in_err-may_remove-clause-state
returns-in_err-may_remove-clause-state c = refused-state c.args.self.now c.args.client (IpcRmid c.args.kind c.args.id) c.in_err-may_remove.field-0.0 (refused c)

pub returns-in_err-may_remove-clause-ended : goal.returns-in_err-may_remove-clause-ended
returns-in_err-may_remove-clause-ended c = told-none c.args.ended.now.items (refused-ended c.args.self.now c.args.client (IpcRmid c.args.kind c.args.id) c.in_err-may_remove.field-0.0 (refused c))

pub remove-requires-clause-unreserved : goal.remove-requires-clause-unreserved
remove-requires-clause-unreserved c =
    let s = c.args.self.now in
    c.self-2.invariant.2 c.args.id ∙ ap (λ (t : State). sends_on c.args.id t.parked) (c.self-2.view_is ∙ c.cancel.ensures.state)
    ∙ ap (λ (kind : Kind). sends_on c.args.id (kept_by (cancelled_as s (cancellings.Removed kind c.args.id)) s.parked)) c.in-Queue.is ∙ none_left c.args.id s.parked

pub invariant_of-self-in-Sems : goal.invariant_of-self-in-Sems
invariant_of-self-in-Sems c =
    let s = c.args.self.now in
    let n = c.self-2.inside in
    let inv = c.self-2.invariant in
    let left : waiting n.parked ≡ kept_by (cancelled_as s (cancellings.Removed kinds.Sems c.args.id)) s.parked = ap (λ (t : State). t.parked) (c.self-2.view_is ∙ c.cancel.ensures.state)
    ∙ ap (λ (kind : Kind). kept_by (cancelled_as s (cancellings.Removed kind c.args.id)) s.parked) c.in-Sems.is in
    let apart = subst (λ (ws : List Waiting). AllByRecursion (λ w. waits_on kinds.Sems c.args.id w.call ≡ false) ws) (sym left) (none_there c.args.id s.parked) in
    (inv.0, inv.1, inv.2, held-elsewhere n.sets c.remove-in-Sems.new.self c.args.id c.remove-in-Sems.ensures.rows n.processes.threads (waiting n.parked) apart inv.3)
