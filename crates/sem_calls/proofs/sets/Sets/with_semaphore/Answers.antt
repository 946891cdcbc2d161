use Rattle.std.proofs.Common.{◌≡◌, ap, arith}
use Rattle.std.specs.Prelude.{length, nat_lt}
use Rattle.ipc_call.specs.declared.rules.Rule.TheVariants.{BadSem}
use Rattle.ipc_call.specs.declared.replies.Answer.TheVariants.{Value}
use Rattle.ipc_model.specs.Decision.{Decision, Refused, outcome_of}
use Rattle.ipc_model.specs.Plan.{Grant, Passes, ◌⨾◌}
use Rattle.ipc_model.specs.State.{Sems}
use Rattle.sem_calls.specs.Calls.{looking}
use Rattle.sem_calls.specs.WithRows.{sems_of}
use Rattle.sem_calls.proofs.sets.Sets.with_semaphore.Goals as goal

pub returns-in_err-set-clause-outcome : goal.returns-in_err-set-clause-outcome
returns-in_err-set-clause-outcome c tell =
    let sems = sems_of c.args.self.now in
    let who = c.args.who.now in
    let refused : looking sems who c.args.id c.args.num tell ≡ Refused (c.in_err-set.field-0.0) =
    c.in_err-set.ensures.refused (λ set. Passes (nat_lt c.args.num (length set.contents.semaphores)) BadSem _ ⨾ Grant (Value (tell set.contents.semaphores)) sems) in
    let told = ap (λ (d : Decision Sems). outcome_of d) refused in
    grind (arith, told, c.from_residual.ensures)
