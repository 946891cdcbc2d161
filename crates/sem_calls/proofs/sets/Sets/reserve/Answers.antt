use Rattle.std.proofs.Common.{◌≡◌, ◌<◌, ◌≤◌, length, ap, ◌∙◌, sym, subst, true, arith, rules, Some}
use Rattle.ipc_objects.specs.declared.object.Object.{Object}
use Rattle.ipc_model.specs.Semaphores.{set_at}
use Rattle.ipc_model.specs.State.{SemSet}
use Rattle.sem_set.specs.Trials.{are_in}
use Rattle.sem_undo.specs.Entries.{row_len}
use Rattle.sem_calls.specs.WithRows.{SetsWithRows, row_at, sems_of}
use Rattle.sem_calls.proofs.Granting.{told-there}
use Rattle.sem_calls.proofs.Reserving.{row-enough, row-made, row-needless, rows-grow}
use Rattle.sem_calls.proofs.sets.Sets.reserve.Goals as goal

pub returns-in_ok-ensure_row-clause-row : goal.returns-in_ok-ensure_row-clause-row
returns-in_ok-ensure_row-clause-row c =
    let sems = sems_of c.args.self.now in
    let set : Object SemSet = c.in-Some.set.now in
    let there : set_at sems c.args.id ≡ Some set = search rules in
    let numbers : are_in set.contents.semaphores c.args.ops.now ≡ true = told-there (set_at sems c.args.id) set (λ (s : Object SemSet). are_in s.contents.semaphores c.args.ops.now ≡ true) there c.requires.numbers in
    let made = row-made c.self.inside.undo c.args.process c.args.id c.len-nsems.result c.ensure_row.new.self c.in_ok-ensure_row.ensures.ok in
    let size = c.len-nsems.ensures ∙ ap (λ (o : Object SemSet). length o.contents.semaphores) c.set.view_is in
    let long : length set.contents.semaphores ≤ row_len c.ensure_row.new.self c.args.process c.args.id = omega (arith, made, size) in
    row-enough (row_len c.ensure_row.new.self c.args.process c.args.id) set.contents.semaphores c.args.ops.now long numbers

pub returns-in_ok-ensure_row-clause-rows : goal.returns-in_ok-ensure_row-clause-rows
returns-in_ok-ensure_row-clause-rows c client set n within =
    rows-grow c.self.inside.undo c.args.process c.args.id c.len-nsems.result c.ensure_row.new.self c.in_ok-ensure_row.ensures.ok client set n
    (subst (λ (held : SetsWithRows). n < row_at held client set) (sym c.self.view_is) within)

pub returns-else-undoes_some-clause-row : goal.returns-else-undoes_some-clause-row
returns-else-undoes_some-clause-row c = row-needless (row_at c.args.self.now c.args.process c.args.id) c.args.ops.now (sym c.if-undoes_some.ensures)
