use Rattle.std.proofs.Common.{◌≡◌, ℤ, List, refl, sym, ap, ◌∙◌, w32, rules, Some}
use Rattle.std.specs.Prelude.{IfOk, OnOk, Result, Ok, Err}
use mir.Val.{SFits, to_z, of_z}
use Rattle.std.proofs.lemmas.Int.{to_z-of_z}
use Rattle.std.proofs.lemmas.Result.{on_ok_weaker}
use Rattle.ipc_call.specs.declared.calls.Call.{Call}
use Rattle.ipc_call.specs.declared.calls.Call.TheVariants.{SemGet, GetVal, GetPid, GetAll, SetVal, SetAll}
use Rattle.ipc_parked.specs.Parked.{waiting}
use Rattle.sem_calls.specs.WithRows.{sems_of}
use Rattle.ipc_model.specs.State.{Caller, Sems, State, caller}
use Rattle.ipc_model.specs.Decision.{Outcome, left_by, outcome_of}
use Rattle.ipc_model.specs.Gets.{get_set}
use Rattle.ipc_model.specs.Semaphores.{get_all, get_pid, get_value, set_all, set_value}
use Rattle.ipc_model.specs.Plan.{Plan, decision}
use Rattle.ipc_model.specs.Decide.{OnSems, decide_alive as decide, part_plan}
use Rattle.ipc_namespace.specs.contracts.namespace.Namespace.{the_view}
use Rattle.ipc_namespace.proofs.Calling.{part-left, part-outcome, part-told, put_sems}
use Rattle.sem_undo.specs.Entries.{Undone, row_len}
use Rattle.ipc_namespace.proofs.Held.{held-same}
use Rattle.ipc_namespace.proofs.namespace.Namespace.on_sets.Goals as goal
use Rattle.ipc_namespace.proofs.namespace.Namespace.on_sets.Goals.{After-caller_of-who}

called : (c : After-caller_of-who) → c.caller_of-who.result ≡ caller (the_view c.self.inside) c.args.client
called c = let e = c.caller_of-who.ensures in rw (c.deref.ensures.value, c.threads.ensures) at e

anyway : {T E : Type 0} (r : Result T E) (P : Type 0) → P → OnOk r P
anyway (Ok x) P p = p
anyway (Err e) P p = tt

-- the call, as the code reads it, and its plan
module _ (c : After-caller_of-who) (read : Call) (is : c.args.call.now ≡ read) (part : State → Caller → Plan Sems) (planned : (t : State) → part_plan t (caller t c.args.client) read ≡ OnSems (part t (caller t c.args.client))) where
  abbrev who : Caller
  who = c.caller_of-who.result

  outcome : outcome_of (decision who.creds (part (the_view c.self.inside) who)) ≡ outcome_of (decide c.args.self.now c.args.client c.args.call.now)
  outcome = part-outcome OnSems put_sems (λ t. t.sems) (λ t. refl) (λ t p. refl) part (the_view c.self.inside) c.args.self.now c.args.client who c.self.view_is (called c) c.args.call.now read is planned

  told : {E : Type 0} (r : Result Outcome E) → IfOk r (λ o. outcome_of (decision who.creds (part (the_view c.self.inside) who)) ≡ Some o) → IfOk r (λ o. outcome_of (decide c.args.self.now c.args.client c.args.call.now) ≡ Some o)
  told r = part-told OnSems put_sems (λ t. t.sems) (λ t. refl) (λ t p. refl) part (the_view c.self.inside) c.args.self.now c.args.client who c.self.view_is (called c) c.args.call.now read is planned r

  left : (sems : Sems) → sems ≡ left_by (the_view c.self.inside).sems (decision who.creds (part (the_view c.self.inside) who)) → put_sems (the_view c.self.inside) sems ≡ left_by c.args.self.now (decide c.args.self.now c.args.client c.args.call.now)
  left = part-left OnSems put_sems (λ t. t.sems) (λ t. refl) (λ t p. refl) part (the_view c.self.inside) c.args.self.now c.args.client who c.self.view_is (called c) c.args.call.now read is planned

pub returns-in-SemGet-clause-outcome : goal.returns-in-SemGet-clause-outcome
unfolding part_plan
returns-in-SemGet-clause-outcome c =
    let b = (goal.at.returns-in-SemGet-clause-outcome c).After-caller_of-who in
    let n = c.in-SemGet in
    told b (SemGet n.key n.nsems n.flags) n.is (λ t w. get_set t.limits t.sems w (record { key = n.key; flags = n.flags }) n.nsems) (λ t. refl) c.semget.result c.semget.ensures.outcome

pub returns-in-SemGet-clause-state : goal.returns-in-SemGet-clause-state
unfolding part_plan
returns-in-SemGet-clause-state c =
    let b = (goal.at.returns-in-SemGet-clause-state c).After-caller_of-who in
    let n = c.in-SemGet in
    on_ok_weaker c.semget.result (λ so. left b (SemGet n.key n.nsems n.flags) n.is (λ t w. get_set t.limits t.sems w (record { key = n.key; flags = n.flags }) n.nsems) (λ t. refl) (sems_of c.semget.new.self) so) c.semget.ensures.sems

pub returns-in-GetVal-clause-outcome : goal.returns-in-GetVal-clause-outcome
unfolding part_plan
returns-in-GetVal-clause-outcome c =
    let b = (goal.at.returns-in-GetVal-clause-outcome c).After-caller_of-who in
    let n = c.in-GetVal in
    sym (outcome b (GetVal n.id n.num) n.is (λ t w. get_value t.sems n.id n.num) (λ t. refl)) ∙ c.getval.ensures.outcome

pub returns-in-GetVal-clause-state : goal.returns-in-GetVal-clause-state
unfolding part_plan
returns-in-GetVal-clause-state c =
    let b = (goal.at.returns-in-GetVal-clause-state c).After-caller_of-who in
    let n = c.in-GetVal in
    sym c.self.view_is ∙ left b (GetVal n.id n.num) n.is (λ t w. get_value t.sems n.id n.num) (λ t. refl) (sems_of c.self.inside.sets) (sym c.getval.ensures.same)

pub returns-in-GetPid-clause-outcome : goal.returns-in-GetPid-clause-outcome
unfolding part_plan
returns-in-GetPid-clause-outcome c =
    let b = (goal.at.returns-in-GetPid-clause-outcome c).After-caller_of-who in
    let n = c.in-GetPid in
    sym (outcome b (GetPid n.id n.num) n.is (λ t w. get_pid t.sems n.id n.num) (λ t. refl)) ∙ c.getpid.ensures.outcome

pub returns-in-GetPid-clause-state : goal.returns-in-GetPid-clause-state
unfolding part_plan
returns-in-GetPid-clause-state c =
    let b = (goal.at.returns-in-GetPid-clause-state c).After-caller_of-who in
    let n = c.in-GetPid in
    sym c.self.view_is ∙ left b (GetPid n.id n.num) n.is (λ t w. get_pid t.sems n.id n.num) (λ t. refl) (sems_of c.self.inside.sets) (sym c.getpid.ensures.same)

pub returns-in-GetAll-clause-outcome : goal.returns-in-GetAll-clause-outcome
unfolding part_plan
returns-in-GetAll-clause-outcome c =
    let b = (goal.at.returns-in-GetAll-clause-outcome c).After-caller_of-who in
    let n = c.in-GetAll in
    told b (GetAll n.id) n.is (λ t w. get_all t.sems n.id) (λ t. refl) c.getall.result c.getall.ensures.outcome

pub returns-in-GetAll-clause-state : goal.returns-in-GetAll-clause-state
unfolding part_plan
returns-in-GetAll-clause-state c =
    let b = (goal.at.returns-in-GetAll-clause-state c).After-caller_of-who in
    let n = c.in-GetAll in
    anyway c.getall.result _ (sym c.self.view_is ∙ left b (GetAll n.id) n.is (λ t w. get_all t.sems n.id) (λ t. refl) (sems_of c.self.inside.sets) (sym c.getall.ensures.same))

pub returns-in-SetVal-clause-outcome : goal.returns-in-SetVal-clause-outcome
unfolding part_plan
returns-in-SetVal-clause-outcome c =
    let b = (goal.at.returns-in-SetVal-clause-outcome c).After-caller_of-who in
    let n = c.in-SetVal in
    let fits : SFits w32 n.value = search rules in
    let read = to_z w32 (of_z w32 n.value) in
    sym (outcome b (SetVal n.id n.num read) (n.is ∙ ap (λ z. SetVal n.id n.num z) (sym (to_z-of_z w32 n.value fits))) (λ t w. set_value t.sems w n.id n.num read) (λ t. refl)) ∙ c.setval.ensures.outcome

pub returns-in-SetVal-clause-state : goal.returns-in-SetVal-clause-state
unfolding part_plan
returns-in-SetVal-clause-state c =
    let b = (goal.at.returns-in-SetVal-clause-state c).After-caller_of-who in
    let n = c.in-SetVal in
    let fits : SFits w32 n.value = search rules in
    let read = to_z w32 (of_z w32 n.value) in
    left b (SetVal n.id n.num read) (n.is ∙ ap (λ z. SetVal n.id n.num z) (sym (to_z-of_z w32 n.value fits))) (λ t w. set_value t.sems w n.id n.num read) (λ t. refl) (sems_of c.setval.new.self) c.setval.ensures.sems

pub returns-in-SetAll-clause-outcome : goal.returns-in-SetAll-clause-outcome
unfolding part_plan
returns-in-SetAll-clause-outcome c =
    let b = (goal.at.returns-in-SetAll-clause-outcome c).After-caller_of-who in
    let n = c.in-SetAll in
    let values = c.as_slice.result.now in
    sym (outcome b (SetAll n.id values) (n.is ∙ ap (λ (vs : List ℤ). SetAll n.id vs) (sym c.as_slice.ensures)) (λ t w. set_all t.sems w n.id values) (λ t. refl)) ∙ c.setall.ensures.outcome

pub returns-in-SetAll-clause-state : goal.returns-in-SetAll-clause-state
unfolding part_plan
returns-in-SetAll-clause-state c =
    let b = (goal.at.returns-in-SetAll-clause-state c).After-caller_of-who in
    let n = c.in-SetAll in
    let values = c.as_slice.result.now in
    left b (SetAll n.id values) (n.is ∙ ap (λ (vs : List ℤ). SetAll n.id vs) (sym c.as_slice.ensures)) (λ t w. set_all t.sems w n.id values) (λ t. refl) (sems_of c.setall.new.self) c.setall.ensures.sems

pub invariant_of-self : goal.invariant_of-self
invariant_of-self c =
    let n = c.self.inside in
    (c.self.invariant.0, c.self.invariant.1, c.self.invariant.2, held-same n.sets c.semget.new.self n.processes.threads (λ client set. ap (λ (u : Undone). row_len u client set) c.semget.ensures.undone) (waiting n.parked) c.self.invariant.3)

pub invariant_of-self-in-SetVal : goal.invariant_of-self-in-SetVal
invariant_of-self-in-SetVal c =
    let n = c.self.inside in
    (c.self.invariant.0, c.self.invariant.1, c.self.invariant.2, held-same n.sets c.setval.new.self n.processes.threads c.setval.ensures.rows (waiting n.parked) c.self.invariant.3)

pub invariant_of-self-in-SetAll : goal.invariant_of-self-in-SetAll
invariant_of-self-in-SetAll c =
    let n = c.self.inside in
    (c.self.invariant.0, c.self.invariant.1, c.self.invariant.2, held-same n.sets c.setall.new.self n.processes.threads c.setall.ensures.rows (waiting n.parked) c.self.invariant.3)
