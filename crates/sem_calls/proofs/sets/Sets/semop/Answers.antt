use Rattle.std.proofs.Common.{◌<◌, ℕ, Some, sym, ◌∙◌, ap, subst}
use Rattle.ipc_model.specs.Decision.{Decision, outcome_of}
use Rattle.ipc_model.specs.State.{Sems}
use Rattle.sem_calls.specs.WithRows.{SetsWithRows, row_at, sems_of}
use Rattle.sem_calls.proofs.Granting.{granted}
use Rattle.sem_calls.proofs.sets.Sets.semop.Goals as goal

pub returns-in_ok-reserve-in-Some-Ok-clause-outcome : goal.returns-in_ok-reserve-in-Some-Ok-clause-outcome
returns-in_ok-reserve-in-Some-Ok-clause-outcome c =
    let g = granted (sems_of c.args.self.now) c.args.who.now c.args.id c.args.ops.now c.args.limits.now (sym c.in-Some-Ok.ensures.told ∙ ap (λ r. Some r) c.in-Some-Ok.field-0-is) in
    sym (ap (λ (d : Decision Sems). outcome_of d) g.left)

pub returns-in_ok-reserve-in-Some-Ok-clause-rows : goal.returns-in_ok-reserve-in-Some-Ok-clause-rows
returns-in_ok-reserve-in-Some-Ok-clause-rows c client set n within =
    subst (λ (k : ℕ). n < k) (sym (c.operate.ensures.rows client set))
    (c.in_ok-reserve-in-Some-Ok.ensures.rows client set n (subst (λ (held : SetsWithRows). n < row_at held client set) (sym c.decide_semop.ensures.same) within))
