use Rattle.std.proofs.Common.{◌≡◌, ℕ, [], ◌∷◌, refl, sym, ap, ◌∙◌, Some, Err}
use Rattle.std.specs.Prelude.{if◌then◌else◌}
use Rattle.std.proofs.lemmas.Result.{err_from_is_err_and}
use Rattle.ipc_call.specs.declared.calls.Call.TheVariants.{IpcSet}
use Rattle.ipc_call.specs.declared.calls.Kind.{Kind}
use Rattle.ipc_call.specs.declared.settings.Settings.{Settings}
use Rattle.ipc_call.specs.declared.rules.Rule.{Rule}
use Rattle.ipc_call.specs.declared.rules.Rule.TheVariants.{BadId}
use Rattle.ipc_creds.specs.Credentials.{Credentials}
use Rattle.ipc_perm.specs.Access.{Resource}
use Rattle.ipc_model.specs.State.{State, creds_at}
use Rattle.ipc_model.specs.Plan.{Needs, decision}
use Rattle.ipc_model.specs.Step.{cancel}
use Rattle.ipc_model.specs.Decide.{decide_alive as decide, part_plan}
use Rattle.ipc_model.specs.Controls.{is_within, perm_of, set_object, with_set}
use Rattle.ipc_model.specs.Decision.{without_answer}
use Rattle.ipc_model.proofs.Plans.{Ends-decision, Ends-found, Ends-order, IfGranted}
use Rattle.ipc_namespace.proofs.Moving.{creds-read, granted-state, refused-ended, refused-outcome, refused-state}
use Rattle.ipc_namespace.proofs.Expiring.{told-none}
use Rattle.ipc_namespace.proofs.namespace.Namespace.set.Goals as goal
use Rattle.ipc_namespace.proofs.namespace.Namespace.set.Goals.{After-from_residual, After-may_set}

verdict : (c : After-may_set) → without_answer (decide c.args.self.now c.args.client (IpcSet c.args.kind c.args.id c.args.new.uid c.args.new.gid c.args.new.mode c.args.new.qbytes)) ≡ Some c.may_set.result
unfolding part_plan
verdict c =
    let known = creds-read _ c.args.self.now c.args.client c.index.result.now c.self.view_is c.requires.known c.index.ensures in
    ap (λ (creds : Credentials). without_answer (decision creds (set_object c.args.self.now c.args.kind c.args.id c.args.new))) (sym known) ∙ c.may_set.ensures

refused : (c : After-from_residual) → without_answer (decide c.args.self.now c.args.client (IpcSet c.args.kind c.args.id c.args.new.uid c.args.new.gid c.args.new.mode c.args.new.qbytes)) ≡ Some (Err c.in_err-may_set.field-0.0)
refused c = verdict (goal.at.After-from_residual c).After-may_set ∙ ap (λ r. Some r) c.in_err-may_set.was

pub returns-in_err-may_set-clause-outcome : goal.returns-in_err-may_set-clause-outcome
returns-in_err-may_set-clause-outcome c =
    let p = err_from_is_err_and c.from_residual.result c.from_residual.ensures.1 in
    refused-outcome c.args.self.now c.args.client (IpcSet c.args.kind c.args.id c.args.new.uid c.args.new.gid c.args.new.mode c.args.new.qbytes) c.in_err-may_set.field-0.0 (refused c)
    ∙ ap (λ (r : Rule). Some (Err r)) (sym p.2) ∙ ap (λ o. Some o) (sym p.1)

pub returns-in_err-may_set-clause-state : goal.returns-in_err-may_set-clause-state
returns-in_err-may_set-clause-state c =
    refused-state c.args.self.now c.args.client (IpcSet c.args.kind c.args.id c.args.new.uid c.args.new.gid c.args.new.mode c.args.new.qbytes) c.in_err-may_set.field-0.0 (refused c)

pub returns-in_err-may_set-clause-ended : goal.returns-in_err-may_set-clause-ended
returns-in_err-may_set-clause-ended c =
    told-none c.args.ended.now.items (refused-ended c.args.self.now c.args.client (IpcSet c.args.kind c.args.id c.args.new.uid c.args.new.gid c.args.new.mode c.args.new.qbytes) c.in_err-may_set.field-0.0 (refused c))

leaves : (s : State) (c : Credentials) (kind : Kind) (id : ℕ) (new : Settings) → IfGranted (λ answer t. t ≡ with_set s kind id new) (decision c (set_object s kind id new))
leaves s c kind id new =
    Ends-decision c (λ answer t. t ≡ with_set s kind id new) (set_object s kind id new)
    (Ends-found _ (perm_of s kind id) BadId tt _ (λ perm is. Ends-order _ (if is_within s new.qbytes then [] else Needs Resource ∷ []) _ refl))

pub returns-clause-state : goal.returns-clause-state
unfolding part_plan
returns-clause-state c =
    let s = c.args.self.now in
    let new = c.args.new in
    let call = IpcSet c.args.kind c.args.id new.uid new.gid new.mode new.qbytes in
    let granted = verdict (goal.at.returns-clause-state c).After-may_set ∙ ap (λ r. Some r) c.in_ok-may_set.was in
    c.cancel.ensures.state ∙ ap (λ (t : State). (cancel t call).state) c.put_settings.ensures
    ∙ granted-state s (with_set s c.args.kind c.args.id new) c.args.client call granted (leaves s (creds_at s c.args.client) c.args.kind c.args.id new)
