use Rattle.sem_undo.proofs.Takes.{adjs_clause, least_clause, len_clause, no_row_clause, none_clause, rest_clause}
use Rattle.sem_undo.proofs.undo.Undo.take_all.Goals as goal

pub returns-clause-none : goal.returns-clause-none
returns-clause-none c =
    none_clause c.self.inside.rows.rows c.args.self.now c.self.view_is c.args.client c.take_first.result c.take_first.ensures.none

pub returns-clause-no_row : goal.returns-clause-no_row
returns-clause-no_row c =
    no_row_clause c.self.inside.rows.rows c.args.self.now c.self.view_is c.args.client c.take_first.result c.take_first.ensures.none

pub returns-clause-len : goal.returns-clause-len
returns-clause-len c =
    len_clause c.self.inside.rows.rows c.args.self.now c.self.view_is c.args.client c.take_first.result c.take_first.ensures.row

pub returns-clause-adjs : goal.returns-clause-adjs
returns-clause-adjs c =
    adjs_clause c.self.inside.rows.rows c.args.self.now c.self.view_is c.args.client c.take_first.result c.take_first.ensures.row

pub returns-clause-least : goal.returns-clause-least
returns-clause-least c =
    least_clause c.self.inside.rows.rows c.args.self.now c.self.view_is c.args.client c.take_first.result c.take_first.ensures.least

pub returns-clause-rest : goal.returns-clause-rest
returns-clause-rest c =
    rest_clause c.self.inside.rows.rows c.args.self.now c.self.view_is c.args.client c.take_first.new.self.rows c.take_first.result c.take_first.ensures.rest
