use Rattle.std.proofs.Common.{◌≡◌, ◌∙◌, ap, false, sym, subst, box_value, IfOk}
use Rattle.ipc_model.specs.State.{is_waiting}
use Rattle.ipc_history.specs.History.{History, run}
use Rattle.ipc_space.specs.Spaces.{Parts}
use Rattle.ipc_combiner.specs.Serving.{HasEntered}
use Rattle.ipc_combiner.proofs.Handing.{calls_freely, entered_if}
use Rattle.ipc_combiner.proofs.shared.Shared.apply.Goals as goal

pub apply-entered-requires-clause-free : goal.apply-entered-requires-clause-free
apply-entered-requires-clause-free c = subst (λ (l : Parts). is_waiting (run l.history) c.args.client ≡ false) (sym c.deref_mut.ensures.value) (calls_freely c.args.self.now.keeping (box_value c.args.self.now.ledger).history c.args.client c.requires.legal c.requires.free)

pub returns-clause-ok : goal.returns-clause-ok
returns-clause-ok c =
    let later : c.forget.new.ledger.history ≡ c.apply-entered.new.self.history = c.forget.ensures.history ∙ ap (λ (l : Parts). l.history) c.deref_mut-2.ensures.value in
    subst (λ (h : History). IfOk c.apply-entered.result (λ x. HasEntered c.args.client c.args.now c.args.call (box_value c.args.self.now.ledger).history h x.own x.others.items)) (sym later)
    (subst (λ (l : Parts). IfOk c.apply-entered.result (λ x. HasEntered c.args.client c.args.now c.args.call l.history c.apply-entered.new.self.history x.own x.others.items)) c.deref_mut.ensures.value
    (entered_if c.deref_mut.result.now.history c.apply-entered.new.self.history c.args.client c.args.now c.args.call c.apply-entered.result c.apply-entered.ensures.event c.apply-entered.ensures.own c.apply-entered.ensures.others c.apply-entered.ensures.legal c.apply-entered.ensures.apart))
