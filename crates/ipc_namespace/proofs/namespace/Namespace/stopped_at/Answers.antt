use Rattle.std.proofs.Common.{◌≡◌, ℕ, List, refl, sym, ap, ◌∙◌, Some, None}
use Rattle.std.specs.Prelude.{option_and_then, option_map}
use Rattle.ipc_call.specs.declared.calls.Call.{Call}
use Rattle.ipc_call.specs.declared.calls.Call.TheVariants.{SemOp}
use Rattle.ipc_call.specs.declared.calls.SemOper.{SemOper}
use Rattle.ipc_call.specs.declared.replies.Waiting.{Waiting}
use Rattle.ipc_model.specs.State.{Sems, State, process_at, waiting_of}
use Rattle.ipc_parked.specs.declared.parked.Arrival.{Arrival}
use Rattle.ipc_parked.specs.Parked.{entry_of}
use Rattle.ipc_parked.proofs.Listed.{waiting-own}
use Rattle.ipc_namespace.specs.Looking.{stop_of}
use Rattle.ipc_namespace.specs.contracts.namespace.Namespace.{the_view}
use Rattle.ipc_namespace.proofs.namespace.Namespace.stopped_at.Goals as goal

-- no call but a semop stops
no-stop : (sems : Sems) (process : ℕ) (call : Call) → ((id : ℕ) (ops : List SemOper) → call ≡ SemOp id ops → ⊥) → None ≡ stop_of sems process call
no-stop sems process (SemOp id ops) not = absurd (not id ops refl)
no-stop sems process call not = refl

pub returns-in_err-arrival-clause-stop : goal.returns-in_err-arrival-clause-stop
returns-in_err-arrival-clause-stop c =
    let none : None ≡ waiting_of c.args.self.now c.args.client =
    ap (option_map {U = Waiting} (λ (a : Arrival). entry_of (c.args.client, a))) c.in_err-arrival.ensures
    ∙ sym (waiting-own c.args.client c.self.inside.parked) ∙ ap (λ (s : State). waiting_of s c.args.client) c.self.view_is in
    c.from_residual.ensures ∙ ap (λ o. option_and_then (λ (w : Waiting). stop_of c.args.self.now.sems (process_at c.args.self.now c.args.client) w.call) o) none

pub returns-in_default : goal.returns-in_default
returns-in_default c =
    let own : Some (entry_of (c.args.client, c.in_ok-arrival.arrival.now)) ≡ waiting_of c.args.self.now c.args.client =
    ap (option_map {U = Waiting} (λ (a : Arrival). entry_of (c.args.client, a))) c.in_ok-arrival.ensures
    ∙ sym (waiting-own c.args.client c.self.inside.parked) ∙ ap (λ (s : State). waiting_of s c.args.client) c.self.view_is in
    record {
      stop = no-stop c.args.self.now.sems (process_at c.args.self.now c.args.client) c.in_ok-arrival.arrival.now.call c.in_default.not-SemOp
          ∙ ap (λ o. option_and_then (λ (w : Waiting). stop_of c.args.self.now.sems (process_at c.args.self.now c.args.client) w.call) o) own;
      same = refl;
    }

pub returns-clause-stop : goal.returns-clause-stop
returns-clause-stop c =
    let process = process_at c.args.self.now c.args.client in
    let own : Some (entry_of (c.args.client, c.in_ok-arrival.arrival.now)) ≡ waiting_of c.args.self.now c.args.client =
    ap (option_map {U = Waiting} (λ (a : Arrival). entry_of (c.args.client, a))) c.in_ok-arrival.ensures
    ∙ sym (waiting-own c.args.client c.self.inside.parked) ∙ ap (λ (s : State). waiting_of s c.args.client) c.self.view_is in
    c.stopping.ensures.stop
    ∙ ap (λ process. stop_of (the_view c.self.inside).sems process (SemOp c.in-SemOp.id c.as_slice.result.now)) c.process_of-process.ensures
    ∙ ap (λ (ops : List SemOper). stop_of (the_view c.self.inside).sems process (SemOp c.in-SemOp.id ops)) c.as_slice.ensures
    ∙ ap (λ (s : State). stop_of s.sems process (SemOp c.in-SemOp.id c.in-SemOp.ops)) c.self.view_is
    ∙ ap (λ (k : Call). stop_of c.args.self.now.sems process k) (sym c.in-SemOp.is)
    ∙ ap (λ o. option_and_then (λ (w : Waiting). stop_of c.args.self.now.sems (process_at c.args.self.now c.args.client) w.call) o) own
