use Rattle.sem_undo.proofs.Clears.{remove_set_value}
use Rattle.sem_undo.proofs.undo.Undo.remove_set.Goals as goal

pub returns : goal.returns
returns c =
    remove_set_value c.self.inside.rows.rows _ c.args.self.now c.self.view_is c.args.set c.remove_set.ensures.rows
