use Rattle.std.proofs.Common.{◌≡◌, ◌∙◌, ◌++◌, [], append-nil, filter, sym, ap, subst}
use Rattle.ipc_model.specs.State.{State}
use Rattle.ipc_model.specs.Step.{Moved, settled}
use Rattle.ipc_parked.specs.Touched.{is_touched}
use Rattle.ipc_namespace.proofs.Settling.{settled-untouched}
use Rattle.ipc_namespace.proofs.namespace.Namespace.settle.Goals as goal
use Rattle.ipc_namespace.proofs.namespace.Namespace.settle.Goals.{Else-may_be_touched}

-- none can proceed
still : (c : Else-may_be_touched) → settled c.args.self.now ≡ record { state = c.args.self.now; ended = [] }
still c =
    let touched = is_touched c.args.touched in
    settled-untouched touched c.args.self.now c.requires.quiet
    (subst (λ (s : State). filter touched s.parked ≡ []) c.self.view_is (c.may_be_touched.ensures c.if-may_be_touched.false))

pub returns-else-may_be_touched-clause-state : goal.returns-else-may_be_touched-clause-state
returns-else-may_be_touched-clause-state c = sym (ap (λ (m : Moved). m.state) (still c))

pub returns-else-may_be_touched-clause-ended : goal.returns-else-may_be_touched-clause-ended
returns-else-may_be_touched-clause-ended c = sym (append-nil c.args.ended.now.items) ∙ ap (λ (m : Moved). c.args.ended.now.items ++ m.ended) (sym (still c))
