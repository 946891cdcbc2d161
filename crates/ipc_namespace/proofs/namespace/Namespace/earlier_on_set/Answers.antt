use Rattle.std.proofs.Common.{◌≡◌, ◌∙◌, ℕ, true, ap, sym, subst, Option}
use Rattle.std.specs.Prelude.{◌||◌, ◌==◌, IfSome}
use Rattle.ipc_model.specs.State.{State, is_waiting}
use Rattle.ipc_namespace.specs.Namespace.{earliest_of, is_found}
use Rattle.ipc_namespace.proofs.OnSets.{found-itself}
use Rattle.ipc_namespace.proofs.namespace.Namespace.earlier_on_set.Goals as goal

pub returns-in-None-clause-first : goal.returns-in-None-clause-first
returns-in-None-clause-first c =
    let s = c.args.self.now in
    let first = c.args.first in
    found-itself s.parked first c.requires ∙ ap (λ (o : Option ℕ). earliest_of s (λ k. is_found first k || is_found o k)) c.in-None.ensures.first

pub earlier-requires : goal.earlier-requires
earlier-requires c = subst (λ (t : State). IfSome c.args.first (λ client. is_waiting t client ≡ true)) (sym c.in-Some.ensures.same) c.requires

pub returns-in-Some-clause-first : goal.returns-in-Some-clause-first
returns-in-Some-clause-first c =
    let s = c.args.self.now in
    let first = c.args.first in
    let client = c.in-Some.client in
    c.earlier.ensures ∙ ap (λ (t : State). earliest_of t (λ k. is_found first k || k == client)) c.in-Some.ensures.same
    ∙ ap (λ (o : Option ℕ). earliest_of s (λ k. is_found first k || is_found o k)) c.in-Some.ensures.first
