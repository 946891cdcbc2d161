use Rattle.std.proofs.Common.{◌≡◌, ℕ, List, sym, ap, ◌∙◌}
use Rattle.ipc_call.specs.declared.calls.Call.{Call}
use Rattle.ipc_perm.specs.Access.{Need, to_alter, to_read}
use Rattle.ipc_model.specs.State.{State, creds_at}
use Rattle.ipc_model.specs.Controls.{perm_in}
use Rattle.ipc_model.specs.Decide.{needs}
use Rattle.ipc_model.specs.Semaphores.{wanted_by}
use Rattle.ipc_model.specs.Cancelled.{first_denial}
use Rattle.ipc_model.proofs.Needs.{needs_for, operator-needs, receiver-needs, sender-needs}
use Rattle.ipc_namespace.proofs.namespace.Namespace.denial.Goals as goal

-- what a call needs, as the code reads it
denial-of : (v s : State) (client : ℕ) (call same : Call) (asked : State → List Need) → v ≡ s → call ≡ same → needs s client same ≡ asked s
    → first_denial (creds_at s client) (asked v) ≡ first_denial (creds_at s client) (needs s client call)
denial-of v s client call same asked is called needed =
    ap (λ (t : State). first_denial (creds_at s client) (asked t)) is
    ∙ ap (λ ns. first_denial (creds_at s client) ns) (sym needed)
    ∙ ap (λ (k : Call). first_denial (creds_at s client) (needs s client k)) (sym called)

pub returns-in-MsgRcv : goal.returns-in-MsgRcv
returns-in-MsgRcv c =
    let s = c.args.self.now in
    let n = c.in-MsgRcv in
    c.denial_on-in-MsgRcv.ensures ∙ ap (λ o. first_denial (creds_at s c.args.client) (needs_for to_read o)) c.perm-in-MsgRcv.ensures
    ∙ denial-of _ s c.args.client _ _ (λ t. needs_for to_read (perm_in t.queues n.id)) c.self.view_is n.is (receiver-needs s c.args.client n.id n.size n.msgtyp n.flags)

pub returns-in-MsgSnd : goal.returns-in-MsgSnd
returns-in-MsgSnd c =
    let s = c.args.self.now in
    let n = c.in-MsgSnd in
    c.denial_on.ensures ∙ ap (λ o. first_denial (creds_at s c.args.client) (needs_for to_alter o)) c.perm.ensures
    ∙ denial-of _ s c.args.client _ _ (λ t. needs_for to_alter (perm_in t.queues n.id)) c.self.view_is n.is (sender-needs s c.args.client n.id n.mtype n.text n.flags)

pub returns-in-SemOp : goal.returns-in-SemOp
returns-in-SemOp c =
    let s = c.args.self.now in
    let n = c.in-SemOp in
    let creds = creds_at s c.args.client in
    c.denial_on-in-SemOp.ensures ∙ ap (λ want. first_denial creds (needs_for want c.perm-in-SemOp.result)) (c.wanted_by.ensures ∙ ap wanted_by c.as_slice.ensures)
    ∙ ap (λ o. first_denial creds (needs_for (wanted_by n.ops) o)) c.perm-in-SemOp.ensures
    ∙ denial-of _ s c.args.client _ _ (λ t. needs_for (wanted_by n.ops) (perm_in t.sems.sets n.id)) c.self.view_is n.is (operator-needs s c.args.client n.id n.ops)
