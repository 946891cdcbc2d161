use Rattle.sem_undo.proofs.Owed.{least_clause, none_clause, there_clause}
use Rattle.sem_undo.proofs.undo.Undo.next_set.Goals as goal

pub returns-clause-none : goal.returns-clause-none
returns-clause-none c =
    none_clause c.self.inside.rows.rows c.args.self.now c.self.view_is c.args.client c.args.from c.next_owed.result c.next_owed.ensures.none

pub returns-clause-there : goal.returns-clause-there
returns-clause-there c =
    there_clause c.self.inside.rows.rows c.args.self.now c.self.view_is c.args.client c.next_owed.result c.next_owed.ensures.there

pub returns-clause-least : goal.returns-clause-least
returns-clause-least c =
    least_clause c.self.inside.rows.rows c.args.self.now c.self.view_is c.args.client c.args.from c.next_owed.result c.next_owed.ensures.least
