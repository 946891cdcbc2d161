use Rattle.std.proofs.Common.{◌≡◌, ℕ, ◌++◌, refl, ap, ◌∙◌, Some, Err, Ok}
use Rattle.ipc_call.specs.declared.calls.Call.TheVariants.{Interrupt}
use Rattle.ipc_model.specs.Decide.{decide_alive as decide, part_plan, plan_alive}
use Rattle.ipc_call.specs.declared.replies.Answer.TheVariants.{Done}
use Rattle.ipc_model.specs.Decision.{without_answer}
use Rattle.ipc_model.specs.State.{State, caller, creds_at}
use Rattle.ipc_model.specs.Processes.{to_signal}
use Rattle.ipc_model.proofs.Plans.{Ends-decision, Ends-order, IfGranted}
use Rattle.ipc_namespace.proofs.Moving.{granted-ended, granted-outcome, granted-state, refused-ended, refused-state}
use Rattle.ipc_namespace.proofs.Expiring.{told-none}
use Rattle.ipc_namespace.proofs.namespace.Namespace.interrupt.Goals as goal
use Rattle.ipc_namespace.proofs.namespace.Namespace.interrupt.Goals.{After-cancel, After-from_residual}

refused : (c : After-from_residual) → without_answer (decide c.args.self.now c.args.client (Interrupt c.args.pid)) ≡ Some (Err c.in_err-may_end_waits.field-0.0)
unfolding part_plan
refused c = c.may_end_waits.ensures ∙ ap (λ r. Some r) c.in_err-may_end_waits.was

pub returns-in_err-may_end_waits-clause-state : goal.returns-in_err-may_end_waits-clause-state
returns-in_err-may_end_waits-clause-state c = refused-state c.args.self.now c.args.client (Interrupt c.args.pid) c.in_err-may_end_waits.field-0.0 (refused c)

pub returns-in_err-may_end_waits-clause-ended : goal.returns-in_err-may_end_waits-clause-ended
returns-in_err-may_end_waits-clause-ended c = told-none c.args.ended.now.items (refused-ended c.args.self.now c.args.client (Interrupt c.args.pid) c.in_err-may_end_waits.field-0.0 (refused c))

granted : (c : After-cancel) → without_answer (decide c.args.self.now c.args.client (Interrupt c.args.pid)) ≡ Some (Ok tt)
unfolding part_plan
granted c = c.may_end_waits.ensures ∙ ap (λ r. Some r) c.in_ok-may_end_waits.was

leaves : (s : State) (client pid : ℕ) → IfGranted (λ answer t. t ≡ s) (decide s client (Interrupt pid))
unfolding part_plan
leaves s client pid = Ends-decision (creds_at s client) (λ answer t. t ≡ s) (plan_alive s client (Interrupt pid)) (Ends-order _ (to_signal s (caller s client) pid) _ refl)

done : (s : State) (client pid : ℕ) → IfGranted (λ answer t. answer ≡ Done) (decide s client (Interrupt pid))
unfolding part_plan
done s client pid = Ends-decision (creds_at s client) (λ answer t. answer ≡ Done) (plan_alive s client (Interrupt pid)) (Ends-order _ (to_signal s (caller s client) pid) _ refl)

pub returns-clause-outcome : goal.returns-clause-outcome
returns-clause-outcome c = granted-outcome c.args.self.now c.args.client (Interrupt c.args.pid) Done (granted c) (done c.args.self.now c.args.client c.args.pid)

pub returns-clause-state : goal.returns-clause-state
returns-clause-state c = c.cancel.ensures.state ∙ granted-state c.args.self.now c.args.self.now c.args.client (Interrupt c.args.pid) (granted c) (leaves c.args.self.now c.args.client c.args.pid)

pub returns-clause-ended : goal.returns-clause-ended
returns-clause-ended c =
    c.cancel.ensures.ended
    ∙ ap (λ es. c.args.ended.now.items ++ es) (granted-ended c.args.self.now c.args.self.now c.args.client (Interrupt c.args.pid) (granted c) (leaves c.args.self.now c.args.client c.args.pid))
