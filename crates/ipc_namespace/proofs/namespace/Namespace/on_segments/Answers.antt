use Rattle.std.proofs.Common.{◌≡◌, ℕ, List, refl, sym, ap, ◌∙◌, Some}
use Rattle.std.specs.Prelude.{IfOk, OnOk, Result, Ok, Err}
use Rattle.std.proofs.lemmas.Result.{on_ok_weaker}
use Rattle.ipc_call.specs.declared.calls.Call.{Call}
use Rattle.ipc_call.specs.declared.calls.Call.TheVariants.{ShmGet, ShmAt, ShmDt, ShmRead, ShmWrite}
use Rattle.ipc_model.specs.State.{Caller, Shared, State, caller}
use Rattle.ipc_model.specs.Decision.{Outcome, left_by, outcome_of}
use Rattle.ipc_model.specs.Gets.{get_segment}
use Rattle.ipc_model.specs.Segments.{attach, detach, read_bytes, write_bytes}
use Rattle.ipc_model.specs.Plan.{Plan, decision}
use Rattle.ipc_model.specs.Decide.{OnShared, decide_alive as decide, part_plan}
use Rattle.ipc_namespace.specs.contracts.namespace.Namespace.{the_view}
use Rattle.ipc_namespace.proofs.Calling.{part-left, part-outcome, part-told, put_shared}
use Rattle.ipc_namespace.proofs.namespace.Namespace.on_segments.Goals as goal
use Rattle.ipc_namespace.proofs.namespace.Namespace.on_segments.Goals.{After-caller_of-who}

called : (c : After-caller_of-who) → c.caller_of-who.result ≡ caller (the_view c.self.inside) c.args.client
called c = let e = c.caller_of-who.ensures in rw (c.deref.ensures.value, c.threads.ensures) at e

anyway : {T E : Type 0} (r : Result T E) (P : Type 0) → P → OnOk r P
anyway (Ok x) P p = p
anyway (Err e) P p = tt

-- the call, as the code reads it, and its plan
module _ (c : After-caller_of-who) (read : Call) (is : c.args.call.now ≡ read) (part : State → Caller → Plan Shared) (planned : (t : State) → part_plan t (caller t c.args.client) read ≡ OnShared (part t (caller t c.args.client))) where
  abbrev who : Caller
  who = c.caller_of-who.result

  outcome : outcome_of (decision who.creds (part (the_view c.self.inside) who)) ≡ outcome_of (decide c.args.self.now c.args.client c.args.call.now)
  outcome = part-outcome OnShared put_shared (λ t. t.shared) (λ t. refl) (λ t p. refl) part (the_view c.self.inside) c.args.self.now c.args.client who c.self.view_is (called c) c.args.call.now read is planned

  told : {E : Type 0} (r : Result Outcome E) → IfOk r (λ o. outcome_of (decision who.creds (part (the_view c.self.inside) who)) ≡ Some o) → IfOk r (λ o. outcome_of (decide c.args.self.now c.args.client c.args.call.now) ≡ Some o)
  told r = part-told OnShared put_shared (λ t. t.shared) (λ t. refl) (λ t p. refl) part (the_view c.self.inside) c.args.self.now c.args.client who c.self.view_is (called c) c.args.call.now read is planned r

  left : (shared : Shared) → shared ≡ left_by (the_view c.self.inside).shared (decision who.creds (part (the_view c.self.inside) who)) → put_shared (the_view c.self.inside) shared ≡ left_by c.args.self.now (decide c.args.self.now c.args.client c.args.call.now)
  left = part-left OnShared put_shared (λ t. t.shared) (λ t. refl) (λ t p. refl) part (the_view c.self.inside) c.args.self.now c.args.client who c.self.view_is (called c) c.args.call.now read is planned

pub returns-in-ShmGet-clause-outcome : goal.returns-in-ShmGet-clause-outcome
unfolding part_plan
returns-in-ShmGet-clause-outcome c =
    let b = (goal.at.returns-in-ShmGet-clause-outcome c).After-caller_of-who in
    let n = c.in-ShmGet in
    told b (ShmGet n.key n.size n.flags) n.is (λ t w. get_segment t.limits t.shared w (record { key = n.key; flags = n.flags }) n.size) (λ t. refl) c.shmget.result c.shmget.ensures.outcome

pub returns-in-ShmGet-clause-state : goal.returns-in-ShmGet-clause-state
unfolding part_plan
returns-in-ShmGet-clause-state c =
    let b = (goal.at.returns-in-ShmGet-clause-state c).After-caller_of-who in
    let n = c.in-ShmGet in
    on_ok_weaker c.shmget.result (λ so. left b (ShmGet n.key n.size n.flags) n.is (λ t w. get_segment t.limits t.shared w (record { key = n.key; flags = n.flags }) n.size) (λ t. refl) c.shmget.new.self so) c.shmget.ensures.shared

pub returns-in-ShmAt-clause-outcome : goal.returns-in-ShmAt-clause-outcome
unfolding part_plan
returns-in-ShmAt-clause-outcome c =
    let b = (goal.at.returns-in-ShmAt-clause-outcome c).After-caller_of-who in
    let n = c.in-ShmAt in
    told b (ShmAt n.id n.flags) n.is (λ t w. attach t.shared w n.id n.flags) (λ t. refl) c.shmat.result c.shmat.ensures.outcome

pub returns-in-ShmAt-clause-state : goal.returns-in-ShmAt-clause-state
unfolding part_plan
returns-in-ShmAt-clause-state c =
    let b = (goal.at.returns-in-ShmAt-clause-state c).After-caller_of-who in
    let n = c.in-ShmAt in
    on_ok_weaker c.shmat.result (λ so. left b (ShmAt n.id n.flags) n.is (λ t w. attach t.shared w n.id n.flags) (λ t. refl) c.shmat.new.self so) c.shmat.ensures.shared

pub returns-in-ShmDt-clause-outcome : goal.returns-in-ShmDt-clause-outcome
unfolding part_plan
returns-in-ShmDt-clause-outcome c =
    let b = (goal.at.returns-in-ShmDt-clause-outcome c).After-caller_of-who in
    let n = c.in-ShmDt in
    sym (outcome b (ShmDt n.att) n.is (λ t w. detach t.shared w n.att) (λ t. refl)) ∙ c.shmdt.ensures.outcome

pub returns-in-ShmDt-clause-state : goal.returns-in-ShmDt-clause-state
unfolding part_plan
returns-in-ShmDt-clause-state c =
    let b = (goal.at.returns-in-ShmDt-clause-state c).After-caller_of-who in
    let n = c.in-ShmDt in
    left b (ShmDt n.att) n.is (λ t w. detach t.shared w n.att) (λ t. refl) c.shmdt.new.self c.shmdt.ensures.shared

pub returns-in-ShmRead-clause-outcome : goal.returns-in-ShmRead-clause-outcome
unfolding part_plan
returns-in-ShmRead-clause-outcome c =
    let b = (goal.at.returns-in-ShmRead-clause-outcome c).After-caller_of-who in
    let n = c.in-ShmRead in
    told b (ShmRead n.att n.offset n.len) n.is (λ t w. read_bytes t.shared w n.att n.offset n.len) (λ t. refl) c.shmread.result c.shmread.ensures.outcome

pub returns-in-ShmRead-clause-state : goal.returns-in-ShmRead-clause-state
unfolding part_plan
returns-in-ShmRead-clause-state c =
    let b = (goal.at.returns-in-ShmRead-clause-state c).After-caller_of-who in
    let n = c.in-ShmRead in
    anyway c.shmread.result _ (sym c.self.view_is ∙ left b (ShmRead n.att n.offset n.len) n.is (λ t w. read_bytes t.shared w n.att n.offset n.len) (λ t. refl) c.self.inside.segments (sym c.shmread.ensures.same))

pub returns-in-ShmWrite-clause-outcome : goal.returns-in-ShmWrite-clause-outcome
unfolding part_plan
returns-in-ShmWrite-clause-outcome c =
    let b = (goal.at.returns-in-ShmWrite-clause-outcome c).After-caller_of-who in
    let n = c.in-ShmWrite in
    let bytes = c.as_slice.result.now in
    told b (ShmWrite n.att n.offset bytes) (n.is ∙ ap (λ (bs : List ℕ). ShmWrite n.att n.offset bs) (sym c.as_slice.ensures)) (λ t w. write_bytes t.shared w n.att n.offset bytes) (λ t. refl) c.shmwrite.result c.shmwrite.ensures.outcome

pub returns-in-ShmWrite-clause-state : goal.returns-in-ShmWrite-clause-state
unfolding part_plan
returns-in-ShmWrite-clause-state c =
    let b = (goal.at.returns-in-ShmWrite-clause-state c).After-caller_of-who in
    let n = c.in-ShmWrite in
    let bytes = c.as_slice.result.now in
    on_ok_weaker c.shmwrite.result (λ so. left b (ShmWrite n.att n.offset bytes) (n.is ∙ ap (λ (bs : List ℕ). ShmWrite n.att n.offset bs) (sym c.as_slice.ensures)) (λ t w. write_bytes t.shared w n.att n.offset bytes) (λ t. refl) c.shmwrite.new.self so) c.shmwrite.ensures.shared
