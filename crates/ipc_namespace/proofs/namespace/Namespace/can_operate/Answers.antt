use Rattle.std.proofs.Common.{◌≡◌, ℕ, ◌<◌, List, true, false, length, refl, sym, ap, ◌∙◌, subst, Option, Some}
use Rattle.std.specs.Prelude.{◌==◌, is_some, IfSome}
use Rattle.std.specs.List.{find}
use Rattle.ipc_call.specs.declared.calls.Call.{Call}
use Rattle.ipc_call.specs.declared.calls.Call.TheVariants.{SemOp}
use Rattle.ipc_call.specs.declared.calls.Kind.TheVariants as kinds
use Rattle.ipc_call.specs.declared.calls.SemOper.{SemOper}
use Rattle.ipc_call.specs.declared.replies.Waiting.{Waiting}
use Rattle.ipc_model.specs.Cancelled.{waits_on}
use Rattle.ipc_model.specs.State.{Caller, Sems, State, caller, has_exited, is_waiting, waiting_of}
use Rattle.ipc_model.specs.Plan.{Plan, decision}
use Rattle.ipc_model.specs.Semaphores.{operate}
use Rattle.ipc_model.specs.Decision.{Outcome, outcome_of, proceeds}
use Rattle.ipc_model.specs.Decide.{decide_alive as decide, part_plan}
use Rattle.ipc_model.specs.Step.{is_ready}
use Rattle.ipc_parked.specs.Parked.{waiting}
use Rattle.ipc_parked.proofs.Listed.{any_waiting, waiting_at}
use Rattle.ipc_namespace.specs.contracts.namespace.Namespace.{the_view}
use Rattle.ipc_namespace.specs.Namespace.{stands}
use Rattle.ipc_namespace.proofs.Calling.{alive-decides, answered-some, outcome-some, sets-outcome}
use Rattle.ipc_namespace.proofs.Held.{IsHeld, held-found}
use Rattle.ipc_namespace.proofs.OnSets.{semop-alone}
use Rattle.ipc_namespace.proofs.Parked.{parked_found}
use Rattle.ipc_namespace.proofs.namespace.Namespace.can_operate.Goals as goal
use Rattle.ipc_namespace.proofs.namespace.Namespace.can_operate.Goals.{After-caller_of-who, After-deref}

-- the client's call as it waits
there : (c : After-deref) → (until : Option ℕ) × (find (λ w. w.client == c.args.client) (waiting c.self.inside.parked) ≡ Some (record { client = c.args.client; call = c.call_of-call.result.now; deadline = until }))
there c = waiting_at c.args.client c.call_of-call.result.now c.self.inside.parked c.call_of-call.ensures

abbrev tried : After-deref → Waiting
tried c = record { client = c.args.client; call = c.call_of-call.result.now; deadline = (there c).0 }

own : (c : After-deref) → find (λ w. w.client == c.args.client) (waiting c.self.inside.parked) ≡ Some (tried c)
own c = (there c).1

of_client : (c : After-deref) → (c.args.client < length c.self.inside.clients.items) × (stands c.call_of-call.result.now ≡ true)
of_client c = let n = c.self.inside in parked_found (length n.clients.items) (λ w. w.client == c.args.client) (waiting n.parked) (tried c) c.self.invariant.1 (own c)

is_own : (c : After-deref) → waiting_of c.args.self.now c.args.client ≡ Some (tried c)
is_own c = sym (ap (λ (s : State). waiting_of s c.args.client) c.self.view_is) ∙ own c

pub call_of-call-requires : goal.call_of-call-requires
call_of-call-requires c = sym (any_waiting c.args.client c.self.inside.parked) ∙ ap (λ (s : State). is_waiting s c.args.client) c.self.view_is ∙ c.requires

is_held : (c : After-deref) → IsHeld c.self.inside.sets c.self.inside.processes.threads (tried c)
is_held c = held-found c.self.inside.sets c.self.inside.processes.threads (λ w. w.client == c.args.client) (waiting c.self.inside.parked) (tried c) c.self.invariant.3 (own c)

alive : (c : After-deref) → has_exited c.args.self.now c.args.client ≡ false
alive c = subst (λ (s : State). has_exited s c.args.client ≡ false) c.self.view_is (is_held c).0

-- what is decided of the call, its client being alive
as-decided : (c : After-deref) → proceeds (decide c.args.self.now c.args.client c.call_of-call.result.now) ≡ is_ready c.args.self.now (tried c)
as-decided c = sym (ap (λ d. proceeds d) (alive-decides c.args.self.now c.args.client c.call_of-call.result.now (alive c)))

pub caller_of-who-requires-clause-known : goal.caller_of-who-requires-clause-known
caller_of-who-requires-clause-known c = rw c.deref.ensures.value (of_client (goal.at.caller_of-who-requires-clause-known c).After-deref).0

called : (c : After-caller_of-who) → c.caller_of-who.result ≡ caller (the_view c.self.inside) c.args.client
called c = let e = c.caller_of-who.ensures in rw (c.deref.ensures.value, c.threads.ensures) at e

-- a semop, as the code reads it
module _ (c : After-caller_of-who) (id : ℕ) (ops : List SemOper) (is : c.call_of-call.result.now ≡ SemOp id ops) where
  abbrev part : State → Caller → Plan Sems
  part t w = operate t.limits t.sems w id ops

  op-outcome : outcome_of (decision c.caller_of-who.result.creds (part (the_view c.self.inside) c.caller_of-who.result)) ≡ outcome_of (decide c.args.self.now c.args.client c.call_of-call.result.now)
  unfolding part_plan
  op-outcome =
      sets-outcome (SemOp id ops) part (the_view c.self.inside) c.args.self.now c.args.client c.caller_of-who.result c.self.view_is (called c) (λ t. refl)
      ∙ ap (λ (call : Call). outcome_of (decide c.args.self.now c.args.client call)) (sym is)

pub returns-in_default-clause-ready : goal.returns-in_default-clause-ready
returns-in_default-clause-ready c =
    let b = (goal.at.returns-in_default-clause-ready c).After-deref in
    let s = c.args.self.now in
    subst (λ o. IfSome o (λ (w : Waiting). (id : ℕ) → waits_on kinds.Sems id w.call ≡ true → false ≡ is_ready s w)) (sym (is_own b))
    (λ id waits. absurd (semop-alone c.call_of-call.result.now (of_client b).1 c.in_default.not-SemOp id waits))

pub returns-clause-ready : goal.returns-clause-ready
returns-clause-ready c =
    let b = (goal.at.returns-clause-ready c).After-deref in
    let k = (goal.at.returns-clause-ready c).After-caller_of-who in
    let n = c.in-SemOp in
    let s = c.args.self.now in
    let is : c.call_of-call.result.now ≡ SemOp n.id c.as_slice.result.now = n.is ∙ ap (λ (ops : List SemOper). SemOp n.id ops) (sym c.as_slice.ensures) in
    subst (λ o. IfSome o (λ (w : Waiting). (id : ℕ) → waits_on kinds.Sems id w.call ≡ true → c.is_some.result ≡ is_ready s w)) (sym (is_own b))
    (λ id waits. c.is_some.ensures ∙ ap (λ o. is_some o) c.decide_semop.ensures.told ∙ answered-some _ ∙ sym (outcome-some _)
    ∙ ap (λ (o : Option Outcome). is_some o) (op-outcome k n.id c.as_slice.result.now is) ∙ outcome-some _ ∙ as-decided b)
