use Rattle.std.proofs.Common.{ap}
use Rattle.ipc_call.specs.declared.replies.Answer.TheVariants.{Values}
use Rattle.ipc_model.specs.Decision.{outcome_of}
use Rattle.ipc_model.specs.Plan.{Grant}
use Rattle.ipc_model.specs.Semaphores.{values_of}
use Rattle.sem_calls.specs.WithRows.{sems_of}
use Rattle.sem_calls.proofs.sets.Sets.getall.Goals as goal

pub returns-in-Err-clause-outcome : goal.returns-in-Err-clause-outcome
returns-in-Err-clause-outcome c = ap outcome_of (c.in-Err.ensures.refused (λ set. Grant (Values (values_of set)) (sems_of c.args.self.now)))
