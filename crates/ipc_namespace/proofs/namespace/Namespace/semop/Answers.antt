use Rattle.std.proofs.Common.{◌≡◌, List, refl, ap, ◌∙◌}
use Rattle.std.proofs.lemmas.Result.{on_ok_weaker}
use Rattle.ipc_call.specs.declared.calls.Call.{Call}
use Rattle.ipc_call.specs.declared.calls.Call.TheVariants.{SemOp}
use Rattle.ipc_call.specs.declared.calls.SemOper.{SemOper}
use Rattle.ipc_parked.specs.Parked.{waiting}
use Rattle.sem_calls.specs.WithRows.{sems_of}
use Rattle.sem_calls.specs.Operations.{operating}
use Rattle.ipc_model.specs.State.{Caller, Sems, State, caller}
use Rattle.ipc_model.specs.Decision.{left_by, outcome_of}
use Rattle.ipc_model.specs.Semaphores.{operate}
use Rattle.ipc_model.specs.Decide.{decide_alive as decide, part_plan}
use Rattle.msg_calls.proofs.Holding.{IfOk-map}
use Rattle.ipc_namespace.specs.contracts.namespace.Namespace.{the_view}
use Rattle.ipc_namespace.proofs.Calling.{put_sems, sets-left, sets-outcome}
use Rattle.ipc_namespace.proofs.Held.{held-longer}
use Rattle.ipc_namespace.proofs.namespace.Namespace.semop.Goals as goal
use Rattle.ipc_namespace.proofs.namespace.Namespace.semop.Goals.{After-semop}

called : (c : After-semop) → c.caller_of-who.result ≡ caller (the_view c.self.inside) c.args.client
called c = let e = c.caller_of-who.ensures in rw (c.deref.ensures.value, c.threads.ensures) at e

abbrev asked : After-semop → Call
asked c = SemOp c.args.id c.args.ops.now

-- the decision on its operations, as the code reads them, is the decision on the call
module _ (c : After-semop) (s : State) (is : the_view c.self.inside ≡ s) where
  abbrev who : Caller
  who = c.caller_of-who.result

  abbrev ops : List SemOper
  ops = c.as_slice.result.now

  outcome : outcome_of (operating (the_view c.self.inside).limits (the_view c.self.inside).sems who c.args.id ops) ≡ outcome_of (decide s c.args.client (asked c))
  unfolding part_plan
  outcome =
      sets-outcome (SemOp c.args.id ops) (λ t w. operate t.limits t.sems w c.args.id ops) (the_view c.self.inside) s c.args.client who is (called c) (λ t. refl)
      ∙ ap (λ (os : List SemOper). outcome_of (decide s c.args.client (SemOp c.args.id os))) c.as_slice.ensures

  left : (sems : Sems) → sems ≡ left_by (the_view c.self.inside).sems (operating (the_view c.self.inside).limits (the_view c.self.inside).sems who c.args.id ops) → put_sems (the_view c.self.inside) sems ≡ left_by s (decide s c.args.client (asked c))
  unfolding part_plan
  left sems so =
      sets-left (SemOp c.args.id ops) (λ t w. operate t.limits t.sems w c.args.id ops) (the_view c.self.inside) s c.args.client who is (called c) (λ t. refl) sems so
      ∙ ap (λ (os : List SemOper). left_by s (decide s c.args.client (SemOp c.args.id os))) c.as_slice.ensures

pub returns-clause-outcome : goal.returns-clause-outcome
returns-clause-outcome c =
    let b = (goal.at.returns-clause-outcome c).After-semop in
    IfOk-map c.semop.result _ _ (λ own told. told ∙ outcome b c.args.self.now c.self.view_is) c.semop.ensures.outcome

pub returns-clause-state : goal.returns-clause-state
returns-clause-state c =
    let b = (goal.at.returns-clause-state c).After-semop in
    on_ok_weaker c.semop.result (left b c.args.self.now c.self.view_is (sems_of c.semop.new.self)) c.semop.ensures.sems

pub invariant_of-self : goal.invariant_of-self
invariant_of-self c =
    let n = c.self.inside in
    (c.self.invariant.0, c.self.invariant.1, c.self.invariant.2, held-longer n.sets c.semop.new.self n.processes.threads c.semop.ensures.rows (waiting n.parked) c.self.invariant.3)
