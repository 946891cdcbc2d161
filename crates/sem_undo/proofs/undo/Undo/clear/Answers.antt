use Rattle.sem_undo.proofs.Clears.{clear_value}
use Rattle.sem_undo.proofs.undo.Undo.clear.Goals as goal

pub returns : goal.returns
returns c =
    clear_value c.self.inside.rows.rows _ c.args.self.now c.self.view_is c.args.set c.args.num c.clear.ensures.rows
