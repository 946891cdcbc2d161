-- An event whose call waits ends no call but those whose deadline it reaches.
use Rattle.std.proofs.Common.{◌≡◌, ℕ, [], ◌∷◌, ◌++◌, refl, sym, ap, ◌∙◌, None}
use Rattle.std.proofs.lemmas.Option.{none-some}
use Rattle.std.proofs.lemmas.List.{append-nil}
use Rattle.ipc_call.specs.declared.calls.Call.{Call}
use Rattle.ipc_model.specs.State.{State}
use Rattle.ipc_model.specs.Decision.{Decision, Refused, Waits, Granted, proceeds}
use Rattle.ipc_model.specs.Decide.{decide, decide_call, is_late}
use Rattle.ipc_model.proofs.Late.{late-waits}
use Rattle.ipc_model.specs.Step.{Event, at_time, begun, expire, entered, waiting_as}
use Rattle.ipc_model.specs.Decision.{outcome_of}
use Rattle.ipc_history.specs.History.{History, run, next_step}
use Rattle.ipc_namespace.proofs.Settling.{settled-none, still_quiet}
use Rattle.ipc_space.proofs.Quiet.{IsQuiet, quiet-begun}

pub ends_none : (s : State) (client : ℕ) (call : Call) (d : Decision State) → d ≡ decide_call s client call → IsQuiet s → outcome_of d ≡ None → (entered s client call d).ended ≡ []
ends_none s client call (Refused rule) is quiet none = absurd (none-some _ (sym none))
ends_none s client call Waits is quiet none = ap (λ m. m.ended) (settled-none (record s { parked = s.parked ++ waiting_as s client call ∷ [] }) (still_quiet s client call quiet (late-waits (is_late s call) (decide s client call) (sym (ap proceeds is)))))
ends_none s client call (Granted answer new) is quiet none = absurd (none-some _ (sym none))

pub waits_alone : (h : History) (e : Event) → (next_step h e).own ≡ None → (next_step h e).ended ≡ (expire (at_time (run h) e.now)).ended
waits_alone h e none =
    let s = begun (run h) e.now in
    let first = (expire (at_time (run h) e.now)).ended in
    ap (λ es. first ++ es) (ends_none s e.client e.call (decide_call s e.client e.call) refl (quiet-begun h e.now) none) ∙ append-nil first
