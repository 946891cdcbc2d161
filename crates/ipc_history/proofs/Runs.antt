-- What is true after every history: every marked segment has an attachment, and what is filed under a process is of one that
-- runs.
use Rattle.std.proofs.Common.{List, [], ◌∷◌, sym, ◌∙◌}
use Rattle.std.specs.FinMap as finite
use Rattle.std.proofs.lemmas.Option.{none-some}
use Rattle.ipc_model.specs.State.{State, opening}
use Rattle.ipc_model.specs.Segments.{AreAttached}
use Rattle.ipc_model.specs.Step.{Event, step}
use Rattle.ipc_model.specs.Tidy.{IsTidy}
use Rattle.ipc_model.proofs.Keeping.{Follows-step}
use Rattle.ipc_model.proofs.Tidying.{tidy-opening, tidy-step}
use Rattle.ipc_history.specs.History.{History, run, run_from}

attached-from : (s : State) (es : List Event) → AreAttached s.shared → AreAttached (run_from s es).shared
attached-from s [] are = are
attached-from s (e ∷ es) are = attached-from (step s e).state es ((Follows-step s e).shared.attached are)

pub attached-run : (h : History) → AreAttached (run h).shared
attached-run h = attached-from (opening h.limits h.clients) h.events (record { each = λ id segment there marked. absurd (none-some segment (sym (finite.get-empty _ id) ∙ there)) })

tidy-from : (s : State) (es : List Event) → IsTidy s → IsTidy (run_from s es)
tidy-from s [] tidy = tidy
tidy-from s (e ∷ es) tidy = tidy-from (step s e).state es (tidy-step s e tidy)

pub tidy-run : (h : History) → IsTidy (run h)
tidy-run h = tidy-from (opening h.limits h.clients) h.events (tidy-opening h.limits h.clients)
