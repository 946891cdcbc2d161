use Rattle.std.proofs.Common.{◌≡◌, ◌∙◌, ap, arith, sym, true}
use Rattle.std.specs.Prelude.{nat_le}
use Rattle.ipc_model.specs.Gets.{object_of_key}
use Rattle.sem_calls.specs.WithRows.{SetsWithRows, sems_of}
use Rattle.sem_calls.proofs.Leaving.{left-found, outcome-found}
use Rattle.sem_calls.proofs.sets.Sets.semget.Goals as goal

pub returns-in-Some-clause-outcome : goal.returns-in-Some-clause-outcome
returns-in-Some-clause-outcome c =
    let h = c.args.self.now in
    let there = c.in-Some.ensures.found ∙ ap (λ (x : SetsWithRows). object_of_key x.sets c.args.asked.get.key) c.self.view_is in
    let within : nat_le c.args.asked.nsems c.args.limits.now.sem_msl ≡ true = grind arith in
    rw within (outcome-found c.args.who.now.creds c.args.limits.now (sems_of h) c.args.who.now c.args.asked.get c.args.asked.nsems (c.in-Some.id, c.in-Some.set.now) there ∙ c.found_set.ensures h.sets c.args.asked.get.key)

pub returns-in-Some-clause-sems : goal.returns-in-Some-clause-sems
returns-in-Some-clause-sems c =
    let there = c.in-Some.ensures.found ∙ ap (λ (x : SetsWithRows). object_of_key x.sets c.args.asked.get.key) c.self.view_is in
    sym (left-found c.args.who.now.creds c.args.limits.now (sems_of c.args.self.now) c.args.who.now c.args.asked.get c.args.asked.nsems (c.in-Some.id, c.in-Some.set.now) there)
