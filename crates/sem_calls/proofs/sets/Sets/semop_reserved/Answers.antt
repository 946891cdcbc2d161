use Rattle.std.proofs.Common.{Some, sym, ◌∙◌, ap}
use Rattle.ipc_model.specs.Decision.{Decision, outcome_of}
use Rattle.ipc_model.specs.State.{Sems}
use Rattle.sem_calls.specs.WithRows.{sems_of}
use Rattle.sem_calls.proofs.Granting.{granted}
use Rattle.sem_calls.proofs.sets.Sets.semop_reserved.Goals as goal

pub returns-in-Some-Ok-clause-outcome : goal.returns-in-Some-Ok-clause-outcome
returns-in-Some-Ok-clause-outcome c =
    let g = granted (sems_of c.args.self.now) c.args.who.now c.args.id c.args.ops.now c.args.limits.now (sym c.in-Some-Ok.ensures.told ∙ ap (λ r. Some r) c.in-Some-Ok.field-0-is) in
    sym (ap (λ (d : Decision Sems). outcome_of d) g.left)
