use Rattle.std.proofs.Common.{◌∙◌, ap, length}
use Rattle.sem_undo.specs.Rows.{adj_in}
use Rattle.sem_undo.proofs.Values.{row_adjs, row_lens}
use Rattle.sem_undo.proofs.undo.Undo.row.Goals as goal

pub returns-clause-len : goal.returns-clause-len
returns-clause-len c =
    ap length c.row.ensures ∙ row_lens c.self.inside.rows.rows c.args.self.now c.self.view_is c.args.client c.args.set

pub returns-clause-adjs : goal.returns-clause-adjs
returns-clause-adjs c num =
    ap (λ r. adj_in r num) c.row.ensures
    ∙ row_adjs c.self.inside.rows.rows c.args.self.now c.self.view_is c.args.client c.args.set num
