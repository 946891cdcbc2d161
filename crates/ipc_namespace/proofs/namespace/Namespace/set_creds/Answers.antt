use Rattle.std.proofs.Common.{◌≡◌, sym, ap, ◌∙◌, Some, Err}
use Rattle.ipc_call.specs.declared.calls.Call.TheVariants.{SetCreds}
use Rattle.ipc_model.specs.Decision.{left_by, outcome_of, without_answer}
use Rattle.ipc_model.specs.Decide.{decide_alive as decide, part_plan}
use Rattle.ipc_namespace.proofs.Moving.{refused-as}
use Rattle.ipc_namespace.proofs.namespace.Namespace.set_creds.Goals as goal
use Rattle.ipc_namespace.proofs.namespace.Namespace.set_creds.Goals.{In-Err}

refused : (c : In-Err) → without_answer (decide c.args.self.now c.args.client (SetCreds c.args.euid c.args.egid c.args.groups.now)) ≡ Some (Err c.in-Err.rule)
unfolding part_plan
refused c = c.may_set_creds.ensures ∙ ap (λ r. Some r) c.in-Err.is

pub returns-in-Err-clause-outcome : goal.returns-in-Err-clause-outcome
returns-in-Err-clause-outcome c =
    ap (λ d. outcome_of d) (refused-as (decide c.args.self.now c.args.client (SetCreds c.args.euid c.args.egid c.args.groups.now)) c.in-Err.rule (refused (goal.at.returns-in-Err-clause-outcome c).In-Err))

pub returns-in-Err-clause-state : goal.returns-in-Err-clause-state
returns-in-Err-clause-state c =
    let s = c.args.self.now in
    sym (ap (λ d. left_by s d) (refused-as (decide s c.args.client (SetCreds c.args.euid c.args.egid c.args.groups.now)) c.in-Err.rule (refused (goal.at.returns-in-Err-clause-state c).In-Err)))
