use Rattle.std.proofs.Common.{◌∙◌, ap}
use Rattle.sem_undo.specs.Entries.{Undone}
use Rattle.sem_calls.specs.WithRows.{SetsWithRows, row_at}
use Rattle.sem_calls.proofs.Rows.{row-kept}
use Rattle.sem_calls.proofs.sets.Sets.remove.Goals as goal

pub returns-clause-rows : goal.returns-clause-rows
returns-clause-rows c = λ client set other.
    row-kept c.self.inside.undo c.remove_set.new.self c.args.id client set (ap (λ (u : Undone). u.rows) c.remove_set.ensures) other
    ∙ ap (λ (h : SetsWithRows). row_at h client set) c.self.view_is
