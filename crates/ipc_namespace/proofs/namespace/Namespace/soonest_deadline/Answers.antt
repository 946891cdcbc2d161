use Rattle.std.proofs.Common.{◌≡◌, ℕ, List, [], ◌∷◌, refl, ap, ◌∙◌}
use Rattle.ipc_model.specs.State.{State}
use Rattle.ipc_parked.specs.declared.parked.Arrival.{Arrival}
use Rattle.ipc_parked.specs.Parked.{soonest_deadline, sooner_of, waiting}
use Rattle.ipc_namespace.specs.Looking.{soonest}
use Rattle.ipc_namespace.proofs.namespace.Namespace.soonest_deadline.Goals as goal

same : (es : List (ℕ × Arrival)) → soonest_deadline es ≡ soonest (waiting es)
unfolding soonest_deadline soonest
same [] = refl
same (e ∷ es) = ap (λ o. sooner_of e.1.deadline o) (same es)

pub returns : goal.returns
returns c = c.soonest.ensures ∙ same c.self.inside.parked ∙ ap (λ (s : State). soonest s.parked) c.self.view_is
