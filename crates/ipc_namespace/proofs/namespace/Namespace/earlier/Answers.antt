use Rattle.std.proofs.Common.{rules, ◌≡◌, ℕ, List, Bool, true, false, ap, refl, subst, sym, ◌∙◌, Option, Some, None}
use Rattle.std.specs.Prelude.{◌==◌, ◌||◌, IfSome}
use Rattle.ipc_call.specs.declared.replies.Waiting.{Waiting}
use Rattle.ipc_model.specs.State.{State, is_waiting}
use Rattle.ipc_parked.specs.declared.parked.Arrival.{Arrival}
use Rattle.ipc_parked.specs.Parked.{comes_before, is_there, waiting}
use Rattle.ipc_parked.proofs.Listed.{any_waiting}
use Rattle.ipc_namespace.specs.Namespace.{earliest_of, is_found}
use Rattle.ipc_namespace.proofs.Earliest.{first_of, is_among, found-after, found-alone, found-before, found-none, found-one}
use Rattle.ipc_namespace.proofs.namespace.Namespace.earlier.Goals as goal

-- what is found among those that wait is what the state says
of-state : (s v : State) (es : List (ℕ × Arrival)) (test : ℕ → Bool) → v ≡ s → waiting es ≡ v.parked → first_of test (waiting es) ≡ earliest_of s test
of-state s v es test view is = ap (λ (ws : List Waiting). first_of test ws) is ∙ ap (λ (x : State). earliest_of x test) view

-- a client whose call waits is there
there : (s v : State) (es : List (ℕ × Arrival)) (client : ℕ) → v ≡ s → waiting es ≡ v.parked → is_waiting s client ≡ true → is_there client es ≡ true
there s v es client view is waits = sym (any_waiting client es) ∙ ap (λ (ws : List Waiting). is_among client ws) is ∙ ap (λ (x : State). is_waiting x client) view ∙ waits

-- a client that waits, and one that doesn't
alone : (s : State) (client : ℕ) (o : Option ℕ) → is_waiting s client ≡ false → IfSome o (λ other. is_waiting s other ≡ true) → o ≡ earliest_of s (λ k. is_found o k || k == client)
alone s client None gone some = sym (found-none client s.parked gone)
alone s client (Some other) gone some = sym (found-alone other client s.parked some gone)

pub returns-then-not-is_waiting : goal.returns-then-not-is_waiting
returns-then-not-is_waiting c =
    let away : is_waiting c.args.self.now c.args.client ≡ false = search rules in
    alone c.args.self.now c.args.client c.args.found away c.requires

pub is_earlier-requires-clause-client : goal.is_earlier-requires-clause-client
is_earlier-requires-clause-client c =
    there c.args.self.now _ c.self.inside.parked c.in-Some.other c.self.view_is refl (subst (λ (o : Option ℕ). IfSome o (λ other. is_waiting c.args.self.now other ≡ true)) c.in-Some.is c.requires)

pub is_earlier-requires-clause-other : goal.is_earlier-requires-clause-other
is_earlier-requires-clause-other c =
    let is : is_waiting c.args.self.now c.args.client ≡ true = search rules in
    there c.args.self.now _ c.self.inside.parked c.args.client c.self.view_is refl is

pub returns-in-Some : goal.returns-in-Some
returns-in-Some c =
    let es = c.self.inside.parked in
    let other = c.in-Some.other in
    let before : comes_before other c.args.client es ≡ true = search rules in
    sym (found-before other c.args.client es before)
    ∙ of-state c.args.self.now _ es (λ k. k == other || k == c.args.client) c.self.view_is refl
    ∙ ap (λ o. earliest_of c.args.self.now (λ k. is_found o k || k == c.args.client)) (sym c.in-Some.is)

pub returns-in_default : goal.returns-in_default
returns-in_default c =
    let es = c.self.inside.parked in
    let other = c.in-Some.other in
    let is : is_waiting c.args.self.now c.args.client ≡ true = search rules in
    let after : comes_before other c.args.client es ≡ false = search rules in
    sym (found-after other c.args.client es (there c.args.self.now _ es c.args.client c.self.view_is refl is) after)
    ∙ of-state c.args.self.now _ es (λ k. k == other || k == c.args.client) c.self.view_is refl
    ∙ ap (λ o. earliest_of c.args.self.now (λ k. is_found o k || k == c.args.client)) (sym c.in-Some.is)

pub returns-in_default-2 : goal.returns-in_default-2
returns-in_default-2 c =
    let is : is_waiting c.args.self.now c.args.client ≡ true = search rules in
    sym (found-one c.args.client c.args.self.now.parked is)
    ∙ ap (λ o. earliest_of c.args.self.now (λ k. is_found o k || k == c.args.client)) (sym c.in_default.is)
