use Rattle.std.proofs.Common.{◌≡◌, ℕ, true, false, refl, sym, ap, ◌∙◌, None, Ok, Err}
use Rattle.std.proofs.lemmas.Bool.{true≢false}
use Rattle.std.proofs.lemmas.Option.{none-some}
use Rattle.ipc_namespace.specs.Namespace.{stands}
use Rattle.ipc_call.specs.declared.calls.Call.{Call}
use Rattle.ipc_call.specs.declared.calls.Call.TheVariants.{MsgSnd, MsgRcv, SemOp, SemTimedOp}
use Rattle.ipc_model.specs.State.{State, creds_at}
use Rattle.ipc_model.specs.Plan.{decision}
use Rattle.ipc_model.specs.Decision.{Decision, Granted, Refused, Waits, outcome_of, proceeds}
use Rattle.ipc_model.specs.Decide.{can_wait, decide_alive as decide, part_plan, plan_alive, waits_as}
use Rattle.ipc_model.proofs.Calls.{only_parkable_alive}
use Rattle.ipc_namespace.proofs.namespace.Namespace.wait.Goals as goal

alive-as : (s : State) (client : ℕ) (call : Call) → plan_alive s client (waits_as call) ≡ plan_alive s client call
unfolding part_plan
alive-as s client (SemTimedOp id ops timeout) = refl
alive-as s client call = refl

stands-as : (call : Call) → can_wait call ≡ true → stands (waits_as call) ≡ true
stands-as (MsgSnd id mtype text flags) can = refl
stands-as (MsgRcv id size msgtyp flags) can = refl
stands-as (SemOp id ops) can = refl
stands-as (SemTimedOp id ops timeout) can = refl
stands-as call can = absurd (true≢false (sym can))

stays : (d : Decision State) → outcome_of d ≡ None → proceeds d ≡ false
stays (Refused rule) is = absurd (none-some (Err rule) (sym is))
stays Waits is = refl
stays (Granted answer new) is = absurd (none-some (Ok answer) (sym is))

pub park-requires-clause-waits : goal.park-requires-clause-waits
park-requires-clause-waits c =
    let s = c.args.self.now in
    ap (λ (k : Call). outcome_of (decide s c.args.client k)) c.in_ok-as_it_waits.ensures
    ∙ ap (λ p. outcome_of (decision (creds_at s c.args.client) p)) (alive-as s c.args.client c.args.call.now) ∙ c.requires.waits

pub park-requires-clause-as_semop : goal.park-requires-clause-as_semop
park-requires-clause-as_semop c =
    let s = c.args.self.now in
    ap (λ (k : Call). stands k) c.in_ok-as_it_waits.ensures
    ∙ stands-as c.args.call.now (only_parkable_alive s c.args.client c.args.call.now (stays (decide s c.args.client c.args.call.now) c.requires.waits))
