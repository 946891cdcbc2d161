use Rattle.std.proofs.Common.{◌≡◌, ◌∙◌, [], map, ap, subst, sym, pos, List, ℤ}
use Rattle.std.specs.Prelude.{IfOk}
use Rattle.ipc_history.specs.History.{run}
use Rattle.ipc_model.specs.State.{process_at}
use Rattle.ipc_model.specs.Semaphores.{set_at}
use Rattle.sem_set.specs.Sets.{set_to}
use Rattle.sem_undo.specs.Entries.{adj_of}
use Rattle.call_reasons.specs.Trials.{can_try_in, refused_from}
use Rattle.call_reasons.proofs.TrialLemmas.{if-copied, not-copied}
use Rattle.call_reasons.proofs.trials.refused_at.Goals as goal

pub returns-then-can_try : goal.returns-then-can_try
returns-then-can_try c =
    let sems = (run c.args.space.now).sems in
    let ops = c.args.ops.now in
    let adj = adj_of sems.undo (process_at (run c.args.space.now) c.args.client) c.args.id in
    if-copied adj ops (set_at sems c.args.id) c.in_ok-values-2.values.items
    (c.in_ok-values-2.ensures ∙ ap (map (λ v. pos v)) (c.as_slice.ensures.value ∙ c.in_ok-values.ensures))
    (ap (λ (vs : List ℤ). can_try_in vs ops) (sym c.as_slice-2.ensures.value) ∙ sym c.can_try.ensures ∙ c.if-can_try.true)
    c.try_copy.result
    (subst (λ (vs : List ℤ). IfOk c.try_copy.result (λ s. s ≡ refused_from (map (set_to 0) vs) adj [] ops)) c.as_slice-then-can_try.ensures.value c.try_copy.ensures)

pub returns : goal.returns
returns c =
    let sems = (run c.args.space.now).sems in
    let ops = c.args.ops.now in
    not-copied (adj_of sems.undo (process_at (run c.args.space.now) c.args.client) c.args.id) ops (set_at sems c.args.id) c.in_ok-values-2.values.items
    (c.in_ok-values-2.ensures ∙ ap (map (λ v. pos v)) (c.as_slice.ensures.value ∙ c.in_ok-values.ensures))
    (ap (λ (vs : List ℤ). can_try_in vs ops) (sym c.as_slice-2.ensures.value) ∙ sym c.can_try.ensures ∙ c.if-can_try.false)
