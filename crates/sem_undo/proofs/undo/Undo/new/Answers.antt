use Rattle.std.proofs.Common.{◌∙◌, ap}
use Rattle.sem_undo.specs.Rows.{undone_in}
use Rattle.sem_undo.proofs.Values.{undone_none}
use Rattle.sem_undo.proofs.undo.Undo.new.Goals as goal

pub returns : goal.returns
returns c = ap undone_in c.new.ensures.rows ∙ undone_none
