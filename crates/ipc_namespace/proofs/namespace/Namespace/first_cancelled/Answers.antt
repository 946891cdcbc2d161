use Rattle.std.proofs.Common.{◌≡◌, ℕ, ◌<◌, true, Bool, length, refl, sym, ap, ◌∙◌, subst, Option, Some, None}
use Rattle.std.specs.Prelude.{◌==◌, is_some, option_and_then, IfSome}
use Rattle.std.specs.List.{find}
use Rattle.std.proofs.lemmas.Bool.{false≢true}
use Rattle.ipc_call.specs.declared.replies.Waiting.{Waiting}
use Rattle.ipc_call.specs.declared.rules.Rule.{Rule}
use Rattle.ipc_model.specs.State.{State, is_waiting, waiting_of}
use Rattle.ipc_parked.specs.Parked.{AreApart}
use Rattle.ipc_parked.proofs.Listed.{any_waiting, waiting_at}
use Rattle.ipc_namespace.specs.Namespace.{AreParked, cancelled_as, stands}
use Rattle.ipc_namespace.proofs.Endings.{without-until}
use Rattle.ipc_namespace.proofs.Parked.{apart-parked, parked_found}
use Rattle.ipc_namespace.proofs.Own.{first-own, found-passes, found-waits, none-first}
use Rattle.ipc_namespace.proofs.namespace.Namespace.first_cancelled.Goals as goal
use Rattle.ipc_namespace.proofs.namespace.Namespace.first_cancelled.Goals.{After-self, After-call_of}

are : (c : After-self) → AreParked (length c.args.self.now.clients) c.args.self.now.parked
are c = subst (λ (s : State). AreParked (length s.clients) s.parked) c.self.view_is c.self.invariant.1

apart : (c : After-self) → AreApart c.args.self.now.parked
apart c = apart-parked (length c.args.self.now.clients) c.args.self.now.parked (are c)

abbrev test : After-self → Waiting → Bool
test c w = is_some (cancelled_as c.args.self.now c.args.cancelling w)

-- the client of what was found has its own call there
first : (c : After-self) → find (test c) c.args.self.now.parked ≡ waiting_of c.args.self.now c.in_ok-client.client
first c = first-own (test c) c.args.self.now.parked _ (apart c) refl ∙ ap (λ o. option_and_then (waiting_of c.args.self.now) o) (sym c.in_ok-client.ensures)

waits : (c : After-self) → is_waiting c.args.self.now c.in_ok-client.client ≡ true
waits c = subst (λ o. IfSome o (λ client. is_waiting c.args.self.now client ≡ true)) (sym c.in_ok-client.ensures) (found-waits (test c) c.args.self.now.parked _ refl)

found : (c : After-call_of) → (until : Option ℕ) × (waiting_of c.args.self.now c.in_ok-client.client ≡ Some (record { client = c.in_ok-client.client; call = c.call_of.result.now; deadline = until }))
found c =
    let there = waiting_at c.in_ok-client.client c.call_of.result.now c.self.inside.parked c.call_of.ensures in
    (there.0, sym (ap (λ (s : State). waiting_of s c.in_ok-client.client) c.self.view_is) ∙ there.1)

abbrev own : After-call_of → Waiting
own c = record { client = c.in_ok-client.client; call = c.call_of.result.now; deadline = (found c).0 }

is_own : (c : After-call_of) → waiting_of c.args.self.now c.in_ok-client.client ≡ Some (own c)
is_own c = (found c).1

passes : (c : After-call_of) → test c.before (own c) ≡ true
passes c = subst (λ o. IfSome o (λ w. test c.before w ≡ true)) (is_own c) (found-passes (test c.before) c.args.self.now.parked _ (first c.before))

pub returns-in_err-client-clause-first : goal.returns-in_err-client-clause-first
returns-in_err-client-clause-first c = let s = c.args.self.now in none-first (λ w. is_some (cancelled_as s c.args.cancelling w)) s.parked _ refl c.in_err-client.ensures ∙ ap (λ o. option_and_then (λ x. waiting_of s x.0) o) (sym c.from_residual.ensures)

pub call_of-requires : goal.call_of-requires
call_of-requires c =
    let b = (goal.at.call_of-requires c).After-self in
    sym (any_waiting c.in_ok-client.client c.self.inside.parked) ∙ ap (λ (s : State). is_waiting s c.in_ok-client.client) c.self.view_is ∙ waits b

of_client : (c : After-call_of) → (c.in_ok-client.client < length c.args.self.now.clients) × (stands c.call_of.result.now ≡ true)
of_client c =
    let s = c.args.self.now in
    parked_found (length s.clients) (λ w. w.client == c.in_ok-client.client) s.parked (own c) (are c.before) (is_own c)

pub cancelled-requires-clause-client : goal.cancelled-requires-clause-client
cancelled-requires-clause-client c = (of_client (goal.at.cancelled-requires-clause-client c).After-call_of).0

pub cancelled-requires-clause-waits : goal.cancelled-requires-clause-waits
cancelled-requires-clause-waits c = (of_client (goal.at.cancelled-requires-clause-waits c).After-call_of).1

-- what was found has a rule
never : (c : After-call_of) → None ≡ cancelled_as c.args.self.now c.args.cancelling (own c) → ⊥
never c none = false≢true (ap (λ (o : Option Rule). is_some o) none ∙ passes c)

pub returns-in_err-rule-clause-first : goal.returns-in_err-rule-clause-first
returns-in_err-rule-clause-first c = absurd (never (goal.at.returns-in_err-rule-clause-first c).After-call_of (c.in_err-rule.ensures ∙ without-until c.args.self.now c.args.cancelling (own (goal.at.returns-in_err-rule-clause-first c).After-call_of)))

pub returns-clause-first : goal.returns-clause-first
returns-clause-first c = first (goal.at.returns-clause-first c).After-self

pub returns-clause-rule : goal.returns-clause-rule
returns-clause-rule c =
    let b = (goal.at.returns-clause-rule c).After-call_of in
    subst (λ o. IfSome o (λ (w : Waiting). cancelled_as c.args.self.now c.args.cancelling w ≡ Some c.in_ok-rule.rule)) (sym (is_own b)) (sym (c.in_ok-rule.ensures ∙ without-until c.args.self.now c.args.cancelling (own b)))

pub returns-clause-waits : goal.returns-clause-waits
returns-clause-waits c = waits (goal.at.returns-clause-waits c).After-self

pub returns-clause-apart : goal.returns-clause-apart
returns-clause-apart c = apart (goal.at.returns-clause-apart c).After-self
