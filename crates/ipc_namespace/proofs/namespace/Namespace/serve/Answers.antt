use Rattle.shm_seg.specs.Attachments.{attachment_at}
use Rattle.std.proofs.Common.{◌≡◌, ℕ, length, false, sym, ap, ◌∙◌, subst, None, Ok, Err}
use Rattle.std.specs.Prelude.{is_err, IfOk, Result}
use Rattle.std.proofs.lemmas.Bool.{true≢false}
use Rattle.ipc_model.proofs.Keeping.{Follows-enter}
use Rattle.ipc_model.specs.State.{State}
use Rattle.ipc_model.specs.Step.{Stepped, at_time, first_ready, is_ready}
use Rattle.ipc_namespace.proofs.Settling.{found-nothing, quiet-at_time}
use Rattle.ipc_namespace.proofs.namespace.Namespace.serve.Goals as goal

pub enter-served-requires-clause-quiet : goal.enter-served-requires-clause-quiet
enter-served-requires-clause-quiet c =
    let s = c.args.self.now in
    let quiet : first_ready s ≡ None = found-nothing (is_ready s) s.parked c.requires.quiet in
    rw c.max-self-inside.ensures (subst (λ (t : State). first_ready t ≡ None) (ap (λ (t : State). at_time t c.args.now) (sym c.self.view_is)) (quiet-at_time s c.args.now quiet))

-- what is so of each result that isn't an error
well : {T E : Type 0} (r : Result T E) (P : T → Type 0) (Q : Type 0) → is_err r ≡ false → IfOk r P → ((x : T) → P x → Q) → Q
well (Ok x) P Q good p f = f x p
well (Err e) P Q good p f = absurd (true≢false good)

pub returns-else-is_err-clause-limits : goal.returns-else-is_err-clause-limits
returns-else-is_err-clause-limits c =
    let new = c.enter-served.new.self in
    well c.enter-served.result _ (new.limits ≡ c.args.self.now.limits) (sym c.is_err.ensures.value ∙ c.if-is_err.false) c.enter-served.ensures.ok (λ served is.
    sym (ap (λ (t : Stepped). t.state.limits) is) ∙ (Follows-enter _ c.args.client c.args.call.now).limits ∙ ap (λ (t : State). t.limits) c.self.view_is)

pub returns-else-is_err-clause-clients : goal.returns-else-is_err-clause-clients
returns-else-is_err-clause-clients c =
    let new = c.enter-served.new.self in
    well c.enter-served.result _ (length new.clients ≡ length c.args.self.now.clients) (sym c.is_err.ensures.value ∙ c.if-is_err.false) c.enter-served.ensures.ok (λ served is.
    sym (ap (λ (t : Stepped). length t.state.clients) is) ∙ (Follows-enter _ c.args.client c.args.call.now).clients ∙ ap (λ (t : State). length t.clients) c.self.view_is)

pub enter-served-requires-clause-fresh : goal.enter-served-requires-clause-fresh
enter-served-requires-clause-fresh c =
    subst (λ (t : State). (number : ℕ) → attachment_at t.shared.attached t.next number ≡ None) (sym c.self.view_is) c.requires.fresh
