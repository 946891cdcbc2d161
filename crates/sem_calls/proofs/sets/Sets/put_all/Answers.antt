use Rattle.std.proofs.Common.{◌∙◌, ap, map, true, Some}
use Rattle.sem_set.specs.Sets.{set_to}
use Rattle.sem_calls.proofs.Renewing.{there-with, valued}
use Rattle.sem_calls.proofs.sets.Sets.put_all.Goals as goal

pub set_time-requires : goal.set_time-requires
set_time-requires c = there-with c.self.inside.sets c.self.inside.undo c.args.self.now c.self.view_is c.args.id _ c.requires.there

pub returns-clause-sems : goal.returns-clause-sems
returns-clause-sems c =
    valued c.self.inside.sets c.self.inside.undo c.args.self.now c.self.view_is c.args.id _ (ap Some c.set.view_is ∙ c.in-Some.ensures.value) c.set_time.new.self c.clear_set.new.self (λ _. true) _ c.args.who.now.now _ _
    c.now.ensures (c.set_all.ensures ∙ ap (λ n. map (set_to n) c.args.values.now) c.pid.ensures) c.set_time.ensures c.clear_set.ensures
