use Rattle.std.proofs.Common.{◌∙◌, sym, subst, add-one, ℕ, ◌<◌, take}
use Rattle.std.specs.List.{AllByRecursion}
use Rattle.ipc_parked.proofs.Rows.{none_all, none_below, none_more}
use Rattle.ipc_parked.proofs.waits.first_of.Goals as goal

pub loop-at-init : goal.loop-at-init
loop-at-init c =
    let below = subst (λ (n : ℕ). AllByRecursion (λ row. row.id < n) (take c.place_of-start.result c.args.rows.now)) c.from.ensures c.place_of-start.ensures.below in
    none_below c.args.rows.now c.args.id c.args.client c.place_of-start.result below

pub loop-at-preserved : goal.loop-at-preserved
loop-at-preserved c =
    rw add-one (none_more c.args.rows.now c.args.id c.args.client c.loop-at.at c.loop-at.invariant (sym c.is_wait_at.ensures ∙ c.if-is_wait_at.false))

pub returns-then-is_wait_at : goal.returns-then-is_wait_at
returns-then-is_wait_at c = (sym c.is_wait_at.ensures ∙ c.if-is_wait_at.true, c.loop-at.invariant)

pub returns : goal.returns
returns c = none_all c.args.rows.now c.args.id c.args.client c.loop-at.at c.loop-at-test.false c.loop-at.invariant
