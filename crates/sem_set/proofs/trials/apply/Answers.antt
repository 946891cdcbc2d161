use Rattle.std.proofs.Common.{◌<◌, arith, length, subst}
use Rattle.std.proofs.lemmas.List.{take_all}
use Rattle.sem_set.proofs.Goes.{fits_now}
use Rattle.sem_set.proofs.Left.{IsLeft, left_is, left_none, left_step}
use Rattle.sem_set.proofs.Running.{num_in}
use Rattle.sem_set.proofs.trials.apply.Goals as goal

pub changed-requires : goal.changed-requires
changed-requires c =
    let fits = fits_now c.args.semaphores.now c.requires.go.0 c.args.ops.now c.requires.go.1 c.loop-oper.oper-index c.loop-oper.semaphores _ c.loop-oper-test.true c.from-num.ensures c.loop-oper.invariant.values in
    record { least = fits.0; most = fits.1 }

pub loop-oper-init : goal.loop-oper-init
loop-oper-init c = left_none _ _

pub loop-oper-preserved : goal.loop-oper-preserved
loop-oper-preserved c =
    let ops = c.args.ops.now in
    let i = c.loop-oper.oper-index in
    let num = c.from-num.ensures in
    let in_set = num_in c.args.semaphores.now ops i c.requires.numbers c.loop-oper-test.true in
    let within : c.from-num.result < length c.loop-oper.semaphores = omega arith in
    let fits = fits_now c.args.semaphores.now c.requires.go.0 ops c.requires.go.1 i c.loop-oper.semaphores _ c.loop-oper-test.true num c.loop-oper.invariant.values in
    left_step c.args.semaphores.now c.args.pid ops i c.loop-oper.semaphores c.from-num.result _ c.loop-oper-test.true num within c.changed.ensures fits.0 c.loop-oper.invariant

pub returns : goal.returns
returns c =
    left_is c.args.ops.now c.args.pid c.args.semaphores.now c.loop-oper.semaphores (subst (λ os. IsLeft c.args.semaphores.now c.args.pid os c.loop-oper.semaphores) (take_all c.loop-oper.oper-index c.args.ops.now c.loop-oper-test.false) c.loop-oper.invariant)
