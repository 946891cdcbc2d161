-- A journal tells its history.
use Rattle.std.proofs.Common.{◌≡◌, ℕ, ◌+◌, List, [], ◌∷◌, ◌++◌, map, refl, sym, ap, ◌∙◌}
use Rattle.ipc_model.specs.State.{State, opening}
use Rattle.ipc_model.specs.Step.{Event, step}
use Rattle.ipc_history.specs.History.{History, answered_row, replies_by, rows_from, rows_of}
use Rattle.ipc_space.specs.Spaces.{events_in}
use Rattle.ipc_space.proofs.Histories.{events_in-answered, events_in-append}

events_in-rows : (place : ℕ) (s : State) (es : List Event) → events_in (rows_from place s es) ≡ es
events_in-rows place s [] = refl
events_in-rows place s (e ∷ es) =
    let answers = map answered_row (replies_by e.client place (step s e)) in
    let later = rows_from (place + 1) (step s e).state es in
    ap (λ (fs : List Event). e ∷ fs)
    (events_in-append answers later ∙ ap (λ fs. fs ++ events_in later) (events_in-answered (replies_by e.client place (step s e)))
    ∙ events_in-rows (place + 1) (step s e).state es)

-- histories that begin alike and have one journal are the same
pub one_history : (g h : History) → g.limits ≡ h.limits → g.clients ≡ h.clients → rows_of g ≡ rows_of h → g ≡ h
one_history g h limits clients rows =
    let events : g.events ≡ h.events =
    sym (events_in-rows 1 (opening g.limits g.clients) g.events) ∙ ap events_in rows ∙ events_in-rows 1 (opening h.limits h.clients) h.events in
    λ i. record { limits = limits i; clients = clients i; events = events i }
