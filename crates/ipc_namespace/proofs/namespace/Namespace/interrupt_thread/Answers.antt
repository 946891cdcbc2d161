use Rattle.std.proofs.Common.{◌≡◌, ℕ, ◌++◌, refl, ap, ◌∙◌, Some, Err, Ok}
use Rattle.ipc_call.specs.declared.calls.Call.TheVariants.{InterruptThread}
use Rattle.ipc_model.specs.Decide.{decide_alive as decide, part_plan, plan_alive}
use Rattle.ipc_call.specs.declared.replies.Answer.TheVariants.{Done}
use Rattle.ipc_model.specs.Decision.{without_answer}
use Rattle.std.specs.Prelude.{◌==◌, [], ◌∷◌, slice_get, if◌then◌else◌}
use Rattle.ipc_call.specs.declared.rules.Rule.TheVariants.{NoClient}
use Rattle.ipc_perm.specs.Access.{SameUser}
use Rattle.ipc_model.specs.Plan.{Needs}
use Rattle.ipc_model.specs.State.{State, creds_at, pid_at}
use Rattle.ipc_model.proofs.Plans.{Ends-decision, Ends-found, Ends-order, IfGranted}
use Rattle.ipc_namespace.proofs.Moving.{granted-ended, granted-outcome, granted-state, refused-ended, refused-state}
use Rattle.ipc_namespace.proofs.Expiring.{told-none}
use Rattle.ipc_namespace.proofs.namespace.Namespace.interrupt_thread.Goals as goal
use Rattle.ipc_namespace.proofs.namespace.Namespace.interrupt_thread.Goals.{After-cancel, After-from_residual}

refused : (c : After-from_residual) → without_answer (decide c.args.self.now c.args.client (InterruptThread c.args.target)) ≡ Some (Err c.in_err-may_interrupt_thread.field-0.0)
unfolding part_plan
refused c = c.may_interrupt_thread.ensures ∙ ap (λ r. Some r) c.in_err-may_interrupt_thread.was

pub returns-in_err-may_interrupt_thread-clause-state : goal.returns-in_err-may_interrupt_thread-clause-state
returns-in_err-may_interrupt_thread-clause-state c = refused-state c.args.self.now c.args.client (InterruptThread c.args.target) c.in_err-may_interrupt_thread.field-0.0 (refused c)

pub returns-in_err-may_interrupt_thread-clause-ended : goal.returns-in_err-may_interrupt_thread-clause-ended
returns-in_err-may_interrupt_thread-clause-ended c = told-none c.args.ended.now.items (refused-ended c.args.self.now c.args.client (InterruptThread c.args.target) c.in_err-may_interrupt_thread.field-0.0 (refused c))

granted : (c : After-cancel) → without_answer (decide c.args.self.now c.args.client (InterruptThread c.args.target)) ≡ Some (Ok tt)
unfolding part_plan
granted c = c.may_interrupt_thread.ensures ∙ ap (λ r. Some r) c.in_ok-may_interrupt_thread.was

leaves : (s : State) (client target : ℕ) → IfGranted (λ answer t. t ≡ s) (decide s client (InterruptThread target))
unfolding part_plan
leaves s client target = Ends-decision (creds_at s client) (λ answer t. t ≡ s) (plan_alive s client (InterruptThread target)) (Ends-found _ (slice_get s.threads target) NoClient tt _ (λ t is. Ends-order _ (if t.pid == pid_at s client then [] else Needs (SameUser (creds_at s target).euid) ∷ []) _ refl))

done : (s : State) (client target : ℕ) → IfGranted (λ answer t. answer ≡ Done) (decide s client (InterruptThread target))
unfolding part_plan
done s client target = Ends-decision (creds_at s client) (λ answer t. answer ≡ Done) (plan_alive s client (InterruptThread target)) (Ends-found _ (slice_get s.threads target) NoClient tt _ (λ t is. Ends-order _ (if t.pid == pid_at s client then [] else Needs (SameUser (creds_at s target).euid) ∷ []) _ refl))

pub returns-clause-outcome : goal.returns-clause-outcome
returns-clause-outcome c = granted-outcome c.args.self.now c.args.client (InterruptThread c.args.target) Done (granted c) (done c.args.self.now c.args.client c.args.target)

pub returns-clause-state : goal.returns-clause-state
returns-clause-state c = c.cancel.ensures.state ∙ granted-state c.args.self.now c.args.self.now c.args.client (InterruptThread c.args.target) (granted c) (leaves c.args.self.now c.args.client c.args.target)

pub returns-clause-ended : goal.returns-clause-ended
returns-clause-ended c =
    c.cancel.ensures.ended
    ∙ ap (λ es. c.args.ended.now.items ++ es) (granted-ended c.args.self.now c.args.self.now c.args.client (InterruptThread c.args.target) (granted c) (leaves c.args.self.now c.args.client c.args.target))
