use Rattle.std.proofs.Common.{◌<◌, ◌∙◌, ap, get_or, arith, length, sym}
use Rattle.std.specs.Prelude.{None}
use Rattle.sem_set.specs.Trials.{adj_in}
use Rattle.sem_set.proofs.Running.{no_met, num_in}
use Rattle.sem_set.proofs.Steps.{met_step, trial_step}
use Rattle.sem_set.proofs.trials.run.Goals as goal

pub loop-place-preserved : goal.loop-place-preserved
loop-place-preserved c =
    let sems = c.args.semaphores.now in
    let adj = adj_in c.args.adjs.now in
    let ops = c.args.ops.now in
    let i = c.loop-place.place in
    let num = c.from-num-in-loop-place.ensures in
    let in_set = num_in sems ops i c.requires.numbers c.loop-place-test.true in
    let within : c.from-num-in-loop-place.result < length c.loop-place.met = omega arith in
    record {
      met = met_step sems adj ops i c.loop-place.met _ _ c.loop-place-test.true num within c.in_ok-met.ensures.1 c.loop-place.invariant.met;
      told = sym (trial_step sems adj ops i _ None c.loop-place-test.true (ap (λ x. get_or c.loop-place.met x no_met) num ∙ c.loop-place.invariant.met i c.loop-place-test.true) c.in_ok-met.ensures.0) ∙ c.loop-place.invariant.told;
    }
