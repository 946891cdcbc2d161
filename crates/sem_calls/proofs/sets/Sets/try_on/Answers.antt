use Rattle.std.proofs.Common.{sym, ap, ◌∙◌, List}
use Rattle.ipc_ids.specs.Table.{Table}
use Rattle.ipc_objects.specs.declared.object.Object.{Object}
use Rattle.ipc_objects.specs.Objects.{with_contents}
use Rattle.ipc_objects.proofs.Seen.{contents-same}
use Rattle.ipc_model.specs.State.{SemSet}
use Rattle.sem_set.specs.declared.set.Semaphore.{Semaphore}
use Rattle.sem_calls.specs.WithRows.{SetsWithRows}
use Rattle.sem_calls.proofs.sets.Sets.try_on.Goals as goal

pub returns-clause-same : goal.returns-clause-same
returns-clause-same c =
    let sets = c.self.inside.sets in
    let undo = c.self.inside.undo in
    let with_sems : List Semaphore → SetsWithRows = λ sems. record { sets = with_contents sets c.args.id (record { semaphores = sems; op_time = c.set.inside.op_time }); undone = undo } in
    ap with_sems c.trial.ensures.same
    ∙ ap (λ (x : SemSet). record { sets = with_contents sets c.args.id x; undone = undo }) c.set.view_is
    ∙ ap (λ (t : Table (Object SemSet)). record { sets = t; undone = undo }) (contents-same sets c.args.id c.in-Some.set.now (sym c.in-Some.ensures.value))
    ∙ c.self.view_is
