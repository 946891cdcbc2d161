use Rattle.sem_undo.proofs.Clears.{clear_set_value}
use Rattle.sem_undo.proofs.undo.Undo.clear_set.Goals as goal

pub returns : goal.returns
returns c =
    clear_set_value c.self.inside.rows.rows _ c.args.self.now c.self.view_is c.args.set c.clear_set.ensures.rows
