use Rattle.std.proofs.Common.{◌≡◌, ◌∙◌, refl, []}
use Rattle.ipc_history.specs.History.{run}
use Rattle.ipc_model.specs.State.{process_at}
use Rattle.sem_set.specs.Trials.{adj_in}
use Rattle.sem_undo.specs.Entries.{adj_of}
use Rattle.call_reasons.proofs.TrialLemmas.{alike, with-values}
use Rattle.call_reasons.proofs.trials.try_in.Goals as goal

pub returns : goal.returns
returns c =
    let adj = adj_of (run c.args.space.now).sems.undo (process_at (run c.args.space.now) c.args.client) c.args.id in
    let row = adj_in c.fill.new.row in
    let set = c.args.set.now in
    let ops = c.args.ops.now in
    c.refused_on.ensures.stop ∙ alike set row set adj [] ops (with-values set row set adj ops (λ n. refl) c.fill.ensures.adjs)
