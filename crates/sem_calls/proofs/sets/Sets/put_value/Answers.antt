use Rattle.std.proofs.Common.{◌≡◌, ◌∙◌, ap, List, Some, w32}
use Rattle.std.specs.Prelude.{◌==◌, slice_set}
use Rattle.std.proofs.lemmas.Int.{to_z-of_z}
use Rattle.sem_set.specs.declared.set.Semaphore.{Semaphore}
use Rattle.sem_set.specs.Sets.{set_to}
use Rattle.ipc_model.specs.State.{SemSet}
use Rattle.ipc_model.specs.Semaphores.{with_values}
use Rattle.sem_calls.specs.WithRows.{sems_of}
use Rattle.sem_calls.proofs.Renewing.{there-with, told-of, valued}
use Rattle.sem_calls.proofs.sets.Sets.put_value.Goals as goal

pub set_time-requires : goal.set_time-requires
set_time-requires c = there-with c.self.inside.sets c.self.inside.undo c.args.self.now c.self.view_is c.args.id _ c.requires.there

pub returns-clause-sems : goal.returns-clause-sems
returns-clause-sems c =
    let now = c.args.self.now in
    let who = c.args.who.now in
    let old : SemSet = record { semaphores = c.set.inside.semaphores; op_time = c.set.inside.op_time } in
    let there = ap Some c.set.view_is ∙ c.in-Some.ensures.value in
    told-of c.self.inside.sets c.self.inside.undo now c.self.view_is c.args.id old there
    (λ (ss : List Semaphore). sems_of (record { sets = c.set_time.new.self; undone = c.clear.new.self }) ≡ with_values (sems_of now) who.now c.args.id (slice_set ss c.args.num (set_to who.pid c.args.value)) (λ n. n == c.args.num))
    (valued c.self.inside.sets c.self.inside.undo now c.self.view_is c.args.id old there c.set_time.new.self c.clear.new.self (λ n. n == c.args.num) _ who.now _ _ c.now.ensures
    (c.set_val.ensures ∙ (λ i. slice_set old.semaphores c.args.num (set_to (c.pid.ensures i) (to_z-of_z w32 c.args.value c.ranges.value i)))) c.set_time.ensures c.clear.ensures)
