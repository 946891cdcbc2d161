use Rattle.std.proofs.Common.{◌≡◌, ◌∙◌, ℕ, Bool, true, ap, subst, sym, slice_get, [], Option}
use Rattle.std.specs.Option.{unwrap_or}
use Rattle.ipc_parked.specs.Waits.{WaitsState, clients_at}
use Rattle.ipc_parked.proofs.Marked.{nobody_waits}
use Rattle.ipc_parked.proofs.waits.Waits.may_wait.Goals as goal

pub returns : goal.returns
returns c clear =
    let marks = c.self.inside.marks in
    let told =
    ap (λ (mark : ℕ). unwrap_or (slice_get marks mark) true) (sym c.mark_of.ensures)
    ∙ ap (λ (mark : Option Bool). unwrap_or mark true) (sym c.get.ensures)
    ∙ sym c.unwrap_or.ensures
    ∙ clear in
    subst (λ (w : WaitsState). clients_at c.args.id w.rows ≡ []) c.self.view_is (nobody_waits marks c.self.inside.rows.items c.args.id told c.self.invariant.1)
