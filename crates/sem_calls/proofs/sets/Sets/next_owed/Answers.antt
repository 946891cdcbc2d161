use Rattle.std.proofs.Common.{◌≡◌, ◌<◌, ◌≤◌, ℕ, false, subst}
use Rattle.std.specs.Prelude.{IfNone, IfSome}
use Rattle.ipc_model.specs.Touched.{owes}
use Rattle.sem_undo.specs.Entries.{HasEntry}
use Rattle.sem_calls.specs.WithRows.{SetsWithRows, sems_of}
use Rattle.sem_calls.proofs.Owing.{least_clause, none_clause}
use Rattle.sem_calls.proofs.sets.Sets.next_owed.Goals as goal

pub returns-clause-none : goal.returns-clause-none
returns-clause-none c =
    let inside : SetsWithRows = record { sets = c.self.inside.sets; undone = c.self.inside.undo } in
    subst (λ (held : SetsWithRows). IfNone c.next_set.result ((id : ℕ) → c.args.from ≤ id → owes (sems_of held) c.args.process id ≡ false)) c.self.view_is
    (none_clause (sems_of inside) c.args.process c.args.from c.next_set.result c.next_set.ensures.none)

pub returns-clause-there : goal.returns-clause-there
returns-clause-there c =
    subst (λ (held : SetsWithRows). IfSome c.next_set.result (λ next. HasEntry (sems_of held).undo c.args.process next)) c.self.view_is c.next_set.ensures.there

pub returns-clause-least : goal.returns-clause-least
returns-clause-least c =
    let inside : SetsWithRows = record { sets = c.self.inside.sets; undone = c.self.inside.undo } in
    subst (λ (held : SetsWithRows). IfSome c.next_set.result (λ next. (id : ℕ) → c.args.from ≤ id → id < next → owes (sems_of held) c.args.process id ≡ false)) c.self.view_is
    (least_clause (sems_of inside) c.args.process c.args.from c.next_set.result c.next_set.ensures.least)
