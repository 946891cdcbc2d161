use Rattle.std.proofs.Common.{◌≡◌, sym, subst}
use Rattle.std.specs.Prelude.{IfOk, OnOk}
use Rattle.ipc_call.specs.declared.calls.Call.{Call}
use Rattle.ipc_model.specs.Decision.{left_by, outcome_of}
use Rattle.ipc_model.specs.Decide.{decide_alive as decide, part_plan}
use Rattle.ipc_namespace.proofs.namespace.Namespace.grant_or_refuse.Goals as goal

pub returns-in-SemTimedOp-clause-own : goal.returns-in-SemTimedOp-clause-own
unfolding part_plan
returns-in-SemTimedOp-clause-own c =
    subst (λ (k : Call). IfOk c.semop-in-SemTimedOp.result (λ own. own ≡ outcome_of (decide c.args.self.now c.args.client k))) (sym c.in-SemTimedOp.is) c.semop-in-SemTimedOp.ensures.outcome

pub returns-in-SemTimedOp-clause-state : goal.returns-in-SemTimedOp-clause-state
unfolding part_plan
returns-in-SemTimedOp-clause-state c =
    subst (λ (k : Call). OnOk c.semop-in-SemTimedOp.result (c.semop-in-SemTimedOp.new.self ≡ left_by c.args.self.now (decide c.args.self.now c.args.client k))) (sym c.in-SemTimedOp.is) c.semop-in-SemTimedOp.ensures.state
