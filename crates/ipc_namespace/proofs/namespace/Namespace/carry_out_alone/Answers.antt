use Rattle.std.proofs.Common.{◌≡◌, sym, ap, ◌∙◌, subst}
use Rattle.std.specs.Prelude.{IfOk, OnOk}
use Rattle.ipc_model.specs.State.{State, has_exited}
use Rattle.ipc_model.specs.Decision.{outcome_of}
use Rattle.ipc_model.specs.Decide.{decide_alive as decide}
use Rattle.ipc_namespace.specs.Namespace.{decide_made, left_made}
use Rattle.ipc_namespace.proofs.Calling.{left-waits, waits-alive}
use Rattle.ipc_namespace.proofs.Wanting.{on-err, waits-wants}
use Rattle.ipc_namespace.proofs.namespace.Namespace.carry_out_alone.Goals as goal

pub returns-in-None-clause-own : goal.returns-in-None-clause-own
returns-in-None-clause-own c =
    let s = c.args.self.now in
    let same : c.grant_or_refuse.new.self ≡ s = c.in_ok-outcome.ensures.state ∙ left-waits s (decide s c.args.client c.args.call.now) (sym c.in_ok-outcome.ensures.own ∙ c.in-None.is) in
    subst (λ (t : State). IfOk c.wait.result (λ own. own ≡ outcome_of (decide_made t c.args.client c.args.call.now))) same c.wait.ensures.own

pub returns-in-None-clause-state : goal.returns-in-None-clause-state
returns-in-None-clause-state c =
    let s = c.args.self.now in
    let same : c.grant_or_refuse.new.self ≡ s = c.in_ok-outcome.ensures.state ∙ left-waits s (decide s c.args.client c.args.call.now) (sym c.in_ok-outcome.ensures.own ∙ c.in-None.is) in
    subst (λ (t : State). OnOk c.wait.result (c.wait.new.self ≡ left_made t c.args.client c.args.call.now)) same c.wait.ensures.state

pub wait-requires-clause-alive : goal.wait-requires-clause-alive
wait-requires-clause-alive c =
    let s = c.args.self.now in
    let waits = sym c.in_ok-outcome.ensures.own ∙ c.in-None.is in
    let same : c.grant_or_refuse.new.self ≡ s = c.in_ok-outcome.ensures.state ∙ left-waits s (decide s c.args.client c.args.call.now) waits in
    ap (λ (t : State). has_exited t c.args.client) same ∙ waits-alive s c.args.client c.args.call.now c.requires.may waits

pub returns-in-None-clause-memory : goal.returns-in-None-clause-memory
returns-in-None-clause-memory c =
    on-err c.wait.result (waits-wants c.args.self.now c.args.client c.args.call.now (sym c.in_ok-outcome.ensures.own ∙ c.in-None.is))
