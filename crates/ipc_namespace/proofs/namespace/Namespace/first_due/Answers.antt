use Rattle.std.proofs.Common.{◌≡◌, true, length, refl, sym, ap, ◌∙◌, subst, Option, Some, None}
use Rattle.std.specs.Prelude.{option_map, IfSome}
use Rattle.std.specs.List.{find}
use Rattle.ipc_call.specs.declared.replies.Waiting.{Waiting}
use Rattle.ipc_model.specs.Decide.{is_reached}
use Rattle.ipc_model.specs.State.{State, is_waiting}
use Rattle.ipc_parked.specs.Parked.{AreApart}
use Rattle.ipc_parked.proofs.Picking.{clients_found}
use Rattle.ipc_namespace.specs.Namespace.{AreParked}
use Rattle.ipc_namespace.proofs.Own.{found-waits}
use Rattle.ipc_namespace.proofs.Parked.{apart-parked}
use Rattle.ipc_namespace.proofs.namespace.Namespace.first_due.Goals as goal

pub returns-clause-first : goal.returns-clause-first
returns-clause-first c =
    c.due.ensures ∙ clients_found (λ w. is_reached c.self.inside.clock w.deadline) c.self.inside.parked
    ∙ ap (λ (s : State). option_map (λ (w : Waiting). w.client) (find (λ w. is_reached s.clock w.deadline) s.parked)) c.self.view_is

pub returns-clause-waits : goal.returns-clause-waits
returns-clause-waits c =
    let s = c.args.self.now in
    let first = returns-clause-first c in
    subst (λ o. IfSome o (λ client. is_waiting s client ≡ true)) (sym first) (found-waits (λ w. is_reached s.clock w.deadline) s.parked _ refl)

some-where : {A : Type 0} (o : Option A) (P : Type 0) → P → IfSome o (λ x. P)
some-where None P p = tt
some-where (Some x) P p = p

pub returns-clause-apart : goal.returns-clause-apart
returns-clause-apart c =
    let s = c.args.self.now in
    some-where c.due.result (AreApart s.parked) (apart-parked (length s.clients) s.parked (subst (λ (t : State). AreParked (length t.clients) t.parked) c.self.view_is c.self.invariant.1))
